-- Gates whose slots stand one after another.
use Rattle.std.proofs.Common.{◌≡◌, ℕ, zero, suc, ◌+◌, ◌<◌, ◌≤◌, false, ◌&&◌, if◌then◌else◌, List, length, sym, ap, ◌∙◌, subst, arith}
use Rattle.circuit_model.specs.Circuits.{is_product}
use Rattle.circuit_model.specs.declared.gate.Gate.{Gate}
use Rattle.session_slots.specs.Sessions.{Session, owners, gate, is_prepared, session_slot, session_slots}
use Rattle.session_slots.specs.Sessions.Slot.{At_gate}
use Rattle.session_slots.specs.SlotNumbers.{first_of_gate, prepared_before, session_slot_number}
use Rattle.session_slots.proofs.SessionSlots.{number_within, slot_gate, direct_count, slot_there}
use Rattle.row_steps.specs.Rows.{AreLinear, gate_in}
use Rattle.desk_walks.specs.Walks.{IsSlotOf}
use Rattle.desk_walks.proofs.GatePlaces.{never_prepared}

-- these are the gates from gate t on
module _ (s : Session) (k t : ℕ) (gates : List Gate) (are : (i : ℕ) → i < length gates → gate_in gates i ≡ gate s (t + i)) (within : t + length gates ≤ length s.gates) where
  -- a gate that is linear isn't prepared
  unprepared : (i : ℕ) → i < length gates → is_product (gate_in gates i).operation ≡ false → is_prepared s (t + i) ≡ false
  unprepared i less linear = ap (λ (g : Gate). s.prepared && is_product g.operation) (sym (are i less)) ∙ ap (λ b. s.prepared && b) linear ∙ never_prepared s.prepared

  -- no prepared product stands among linear ones
  none_between : (i : ℕ) → i ≤ length gates → AreLinear gates i → prepared_before s (t + i) ≡ prepared_before s t
  none_between zero less linear = let none : t + 0 ≡ t = omega arith in ap (prepared_before s) none
  none_between (suc i) less linear =
      let next : t + suc i ≡ suc (t + i) = omega arith in
      ap (prepared_before s) next
      ∙ ap (λ b. prepared_before s (t + i) + (if b then 1 else 0)) (unprepared i (omega (arith, less)) (linear i (omega arith)))
      ∙ (let same = none_between i (omega (arith, less)) (λ u l. linear u (omega (arith, l))) in omega (arith, same))

  module _ (here : k ≡ session_slot_number s (At_gate t)) where
    number_on : (i : ℕ) → i < length gates → AreLinear gates i → (s.prepared && is_product (gate_in gates i).operation) ≡ false → session_slot_number s (At_gate (t + i)) ≡ k + i
    number_on zero less linear dealt = let none : t + 0 ≡ t = omega arith in ap (λ z. session_slot_number s (At_gate z)) none ∙ sym here ∙ omega arith
    number_on (suc i) less linear dealt =
        let first : k ≡ first_of_gate s t = here ∙ ap (λ b. first_of_gate s t + (if b then 2 else 0)) (ap (is_prepared s) zero_on ∙ unprepared 0 (omega (arith, less)) (linear 0 (omega arith))) ∙ omega arith in
        let last : is_prepared s (t + suc i) ≡ false = ap (λ (g : Gate). s.prepared && is_product g.operation) (sym (are (suc i) less)) ∙ dealt in
        let same = none_between (suc i) (omega (arith, less)) linear in
        ap (λ b. first_of_gate s (t + suc i) + (if b then 2 else 0)) last
        ∙ omega (arith, same, first)
      where
        zero_on : t ≡ t + 0
        zero_on = omega arith

    -- each is of the slot so many on
    pub listed_run : (i : ℕ) → i < length gates → AreLinear gates i → (s.prepared && is_product (gate_in gates i).operation) ≡ false → IsSlotOf s (k + i) (gate_in gates i)
    listed_run i less linear dealt =
        let number = number_on i less linear dealt in
        let lt : t + i < length s.gates = omega (arith, less, within) in
        record {
          number = t + i;
          slot = ap (session_slot s) (sym number) ∙ slot_there s (At_gate (t + i)) lt;
          is = sym (are i less);
          there = subst (λ z. z < session_slots s) number (number_within s (At_gate (t + i)) lt);
        }

  -- where products are dealt themselves, the gates' slots stand behind those of the inputs
  pub direct_run : s.prepared ≡ false → k ≡ length (owners s) + t → (i : ℕ) → i < length gates → IsSlotOf s (k + i) (gate_in gates i)
  direct_run direct here i less =
      let lt : t + i < length s.gates = omega (arith, less, within) in
      let far : length (owners s) + (t + i) ≡ k + i = omega (arith, here) in
      let count = direct_count s direct in
      record {
        number = t + i;
        slot = ap (session_slot s) (sym far) ∙ slot_gate s direct (t + i) lt;
        is = sym (are i less);
        there = omega (arith, far, count, lt);
      }
