use Rattle.std.proofs.Common.{◌≡◌, ◌∷◌, ◌++◌, length, take, drop, sym, ap, ap₂, ◌∙◌, arith}
use Rattle.std.proofs.lemmas.Bool.Decides.{nat_tests}
use Rattle.std.proofs.lemmas.List.{take-append-drop}
use Rattle.std.proofs.lemmas.Slice.Eq.{bytes_eq-Decides}
use Rattle.view_check.proofs.written_line.after_part.Goals as goal

pub returns : goal.returns
returns c =
    let text = c.args.text.now in
    let part = c.args.part.now in
    let front : take (length part) text ≡ part = (bytes_eq-Decides (take (length part) text) part).0 c.in_ok-strip_prefix.ensures.cases.0 in
    let back : c.in_ok-strip_prefix.field-0.now ≡ drop (length part) text = c.in_ok-strip_prefix.ensures.cases.1 in
    let same : c.in_ok-byte.byte.now ≡ c.args.end = grind (arith, nat_tests) in
    sym (take-append-drop (length part) text)
    ∙ ap₂ (λ xs ys. xs ++ ys) front (sym back ∙ c.in_ok-byte.ensures.cases.0 ∙ ap (λ b. b ∷ c.in_ok-byte.rest.now) same)
