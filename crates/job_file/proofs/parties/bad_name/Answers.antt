use Rattle.std.proofs.Common.{◌≡◌, ◌∙◌, ap, sym, map, take, drop, [], Some, cond, ℕ, true, false, List, ◌+◌}
use Rattle.std.proofs.lemmas.List.{drop_all}
use Rattle.toml.specs.View.{view}
use Rattle.toml.specs.declared.value.Value.{Value}
use Rattle.toml_fields.specs.Fields.{text_of}
use Rattle.toml_fields.proofs.Lists.{map_twice}
use Rattle.job_file.specs.Faults.{bad_name}
use Rattle.job_file.proofs.Readers.{text_in, reader_turn, is_bad}
use Rattle.job_file.proofs.parties.bad_name.Goals as goal

pub loop-at-init : goal.loop-at-init
loop-at-init c = ap (bad_name c.args.names.now []) (map_twice text_of view c.args.texts.now)

pub returns-then-is_bad : goal.returns-then-is_bad
returns-then-is_bad c =
    let names : List (List ℕ) = c.args.names.now in
    let vs : List Value = c.args.texts.now in
    let at : ℕ = c.loop-at.at in
    let turn = reader_turn names vs at c.index-texts-at.result c.loop-at-test.true c.index-texts-at.is in
    let bad : is_bad names (take at vs) (text_in c.index-texts-at.result) ≡ true = ap (is_bad names (take at vs)) (sym c.text_of-text.ensures) ∙ sym c.if-is_bad.ensures in
    sym (c.loop-at.invariant ∙ turn ∙ ap (λ b. cond b (Some at) (bad_name names (map text_in (take (at + 1) vs)) (map text_in (drop (at + 1) vs)))) bad)

pub loop-at-preserved : goal.loop-at-preserved
loop-at-preserved c =
    let names : List (List ℕ) = c.args.names.now in
    let vs : List Value = c.args.texts.now in
    let at : ℕ = c.loop-at.at in
    let turn = reader_turn names vs at c.index-texts-at.result c.loop-at-test.true c.index-texts-at.is in
    let good : is_bad names (take at vs) (text_in c.index-texts-at.result) ≡ false = ap (is_bad names (take at vs)) (sym c.text_of-text.ensures) ∙ sym c.if-is_bad.ensures in
    c.loop-at.invariant ∙ turn ∙ ap (λ b. cond b (Some at) (bad_name names (map text_in (take (at + 1) vs)) (map text_in (drop (at + 1) vs)))) good

pub returns : goal.returns
unfolding bad_name
returns c =
    let vs : List Value = c.args.texts.now in
    sym (c.loop-at.invariant ∙ ap (λ xs. bad_name c.args.names.now (map text_in (take c.loop-at.at vs)) (map text_in xs)) (drop_all c.loop-at.at vs c.loop-at-test.false))
