use Rattle.std.proofs.Common.{◌≡◌, [], Some, None, sym, ap, ◌∙◌, arith}
use Rattle.std.specs.Option.{option_map_or}
use Rattle.std.proofs.lemmas.Str.Pattern.{split_once_first}
use Rattle.group_text.specs.GroupTexts.{parts_of}
use Rattle.group_text.proofs.SplitTexts.{parts-cut, parts-last, parts_go}
use Rattle.group_text.proofs.group_parts.GroupPartsIterator.next.Goals as goal

pub returns-in-Some-clause-steps : goal.returns-in-Some-clause-steps
returns-in-Some-clause-steps c =
    let text = c.in_ok-text.text.now in
    let whole : c.args.self.now ≡ parts_of text = sym c.self.view_is ∙ ap (λ o. option_map_or (λ t. parts_of t.now) o []) c.in_ok-text.was in
    let cut = split_once_first 43 text (Some (c.in-Some.part, c.in-Some.rest)) c.in-Some.ensures.cases (omega arith) in
    whole ∙ parts-cut text c.in-Some.part.now c.in-Some.rest.now cut.0 cut.1 cut.2

pub returns-in-Some-clause-goes : goal.returns-in-Some-clause-goes
returns-in-Some-clause-goes c =
    let text = c.in_ok-text.text.now in
    let whole : c.args.self.now ≡ parts_of text = sym c.self.view_is ∙ ap (λ o. option_map_or (λ t. parts_of t.now) o []) c.in_ok-text.was in
    let cut = split_once_first 43 text (Some (c.in-Some.part, c.in-Some.rest)) c.in-Some.ensures.cases (omega arith) in
    parts_go c.args.self.now (parts_of c.in-Some.rest.now) c.in-Some.part (whole ∙ parts-cut text c.in-Some.part.now c.in-Some.rest.now cut.0 cut.1 cut.2)

pub returns-in-None-clause-steps : goal.returns-in-None-clause-steps
returns-in-None-clause-steps c =
    let text = c.in_ok-text.text.now in
    let whole : c.args.self.now ≡ parts_of text = sym c.self.view_is ∙ ap (λ o. option_map_or (λ t. parts_of t.now) o []) c.in_ok-text.was in
    whole ∙ parts-last text (split_once_first 43 text None c.in-None.ensures.cases (omega arith))

pub returns-in-None-clause-goes : goal.returns-in-None-clause-goes
returns-in-None-clause-goes c =
    let text = c.in_ok-text.text.now in
    let whole : c.args.self.now ≡ parts_of text = sym c.self.view_is ∙ ap (λ o. option_map_or (λ t. parts_of t.now) o []) c.in_ok-text.was in
    parts_go c.args.self.now [] c.in_ok-text.text (whole ∙ parts-last text (split_once_first 43 text None c.in-None.ensures.cases (omega arith)))
