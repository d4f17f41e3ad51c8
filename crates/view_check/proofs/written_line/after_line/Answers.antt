use Rattle.std.proofs.Common.{◌≡◌, ℕ, List, [], ◌∷◌, ◌++◌, sym, ap, ◌∙◌}
use Rattle.std.specs.Prelude.{decimal}
use Rattle.std.proofs.lemmas.Option.{get_or_from_slice_get}
use Rattle.view_text.specs.ViewText.{message_line}
use Rattle.view_check.proofs.WrittenTexts.{if_some, parts_then}
use Rattle.view_check.proofs.written_line.after_line.Goals as goal

pub returns : goal.returns
returns c =
    let number : List ℕ → ℕ → List ℕ = λ rest n. decimal n ++ 32 ∷ rest in
    let part : List ℕ → List ℕ → List ℕ = λ rest name. name ++ 32 ∷ rest in
    if_some (λ rest. c.in_ok-text-5.text.now ≡ decimal c.args.word ++ 10 ∷ rest.now) (λ rest. c.args.text.now ≡ message_line c.args.names.now c.args.key c.args.word ++ rest.now) c.after_number-4.result
    (λ rest last. parts_then c.args.names.now c.args.key c.args.word c.args.text.now c.in_ok-text.text.now c.in_ok-text-2.text.now c.in_ok-text-3.text.now c.in_ok-text-4.text.now c.in_ok-text-5.text.now rest.now
    (c.in_ok-text.ensures ∙ ap (number c.in_ok-text.text.now) c.from.ensures)
    (c.in_ok-text-2.ensures ∙ ap (number c.in_ok-text-2.text.now) c.from-2.ensures)
    (c.in_ok-text-3.ensures ∙ ap (number c.in_ok-text-3.text.now) c.from-3.ensures)
    (c.in_ok-text-4.ensures ∙ ap (part c.in_ok-text-4.text.now) (c.as_bytes.ensures.value ∙ sym (get_or_from_slice_get c.args.names.now c.args.key.sender c.name.result.now [] c.name.ensures)))
    (c.in_ok-text-5.ensures ∙ ap (part c.in_ok-text-5.text.now) (c.as_bytes-2.ensures.value ∙ sym (get_or_from_slice_get c.args.names.now c.args.key.receiver c.name-2.result.now [] c.name-2.ensures)))
    last)
    c.after_number-4.ensures
