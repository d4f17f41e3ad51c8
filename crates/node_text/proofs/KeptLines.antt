-- The lines of what a node kept, message by message.
use Rattle.std.proofs.Common.{◌≡◌, ℕ, zero, suc, List, ◌++◌, refl, ap, ◌∙◌}
use Rattle.std.proofs.lemmas.List.Concat.{flat_map-append}
use Rattle.list_laws.specs.Lists.{joined}
use Rattle.plan_model.specs.declared.key.Key.{Key}
use Rattle.view_text.specs.ViewText.{message_line, message_lines}

pub lines-joined : (names : List (List ℕ)) (n : ℕ) (f : ℕ → List (Key × ℕ)) → message_lines names (joined n f) ≡ joined n (λ m. message_lines names (f m))
lines-joined names zero f = refl
lines-joined names (suc n) f =
    flat_map-append (λ (m : Key × ℕ). message_line names m.0 m.1) (joined n f) (f n) ∙ ap (λ lines. lines ++ message_lines names (f n)) (lines-joined names n f)
