use Rattle.std.proofs.Common.{◌≡◌, ℕ, [], ◌++◌, List, length, ap, ◌∙◌, append_assoc, arith}
use Rattle.std.specs.Prelude.{map}
use Rattle.list_laws.specs.Lists.{listed}
use Rattle.session_slots.specs.Sessions.{slot_list}
use Rattle.session_slots.specs.Sessions.Slot.{Kept}
use Rattle.session_slots.specs.SoundSessions.{slot_of_kind}
use Rattle.session_slots.proofs.slot_list.list_kinds.Goals as goal

-- five parts behind one another
five_parts : {A : Type 0} (none masks inputs gates outputs kept a b c d f : List A) → none ≡ [] → masks ≡ none ++ a → inputs ≡ masks ++ b → gates ≡ inputs ++ c → outputs ≡ gates ++ d → kept ≡ outputs ++ f
    → kept ≡ a ++ (b ++ (c ++ (d ++ f)))
five_parts none masks inputs gates outputs kept a b c d f e m i g o k =
    k ∙ ap (λ x. x ++ f) (o ∙ ap (λ x. x ++ d) (g ∙ ap (λ x. x ++ c) (i ∙ ap (λ x. x ++ b) (m ∙ ap (λ x. x ++ a) e))))
    ∙ append_assoc ((a ++ b) ++ c) d f ∙ append_assoc (a ++ b) c (d ++ f) ∙ append_assoc a b (c ++ (d ++ f))

pub returns : goal.returns
unfolding slot_list
returns c =
    let count : c.len.result ≡ length c.args.wiring.now.kept.items = omega (arith, c.len.ensures) in
    let kept : listed c.len.result (λ j. Kept j) ≡ listed (length c.args.wiring.now.kept.items) (λ j. Kept j) = ap (λ (n : ℕ). listed n (λ j. Kept j)) count in
    five_parts _ _ _ _ _ _ _ _ _ _ _ (ap (map slot_of_kind) c.new-kinds.ensures.items) c.in_ok-push_prepared.ensures c.in_ok-push_inputs.ensures c.in_ok-push_gates.ensures c.in_ok-push_outputs.ensures
    (c.in_ok-push_kept.ensures ∙ ap (λ xs. map slot_of_kind c.push_outputs.new.kinds.items ++ xs) kept)
