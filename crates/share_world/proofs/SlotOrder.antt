-- Which slots of a session stand before which.
use Rattle.std.proofs.Common.{◌≡◌, ℕ, ◌+◌, ◌*◌, ◌<◌, ◌≤◌, true, if◌then◌else◌, length, ap, sym, ◌∙◌, arith}
use Rattle.std.proofs.lemmas.Bool.{cases_Bool, cases_lt, cases_eq}
use mathlib.Core.Logic.{inl, inr}
use Rattle.list_laws.proofs.JoinedLists.{total_within}
use Rattle.session_slots.specs.declared.side.Side.{Side}
use Rattle.session_slots.specs.declared.side.Side.TheVariants.{First, Second}
use Rattle.session_slots.specs.Sessions.{Session, owners, is_prepared}
use Rattle.session_slots.specs.Sessions.Slot.{Input, At_gate, Mask, Mask_product, Masked}
use Rattle.session_slots.specs.SoundSessions.{Inside}
use Rattle.session_slots.specs.SlotNumbers.{prepared_before, first_of_gate, session_slot_number}
use Rattle.session_slots.proofs.SessionSlots.{masks_before_product, product_before_inputs}

module _ (x : Session) where
  abbrev one : ℕ → ℕ
  one t = if is_prepared x t then 1 else 0

  counted : (t n : ℕ) → t < n → prepared_before x t + one t ≤ prepared_before x n
  counted t n l = total_within n t one l

  one_is : (t : ℕ) → is_prepared x t ≡ true → one t ≡ 1
  one_is t e = ap (λ b. if b then 1 else 0) e

  two_ones : (t : ℕ) → (if is_prepared x t then 2 else 0) ≡ 2 * one t
  two_ones t = (elim (cases_Bool (is_prepared x t)) [
    | inl e ↦ ap (λ b. if b then 2 else 0) e ∙ sym (ap (λ b. 2 * (if b then 1 else 0)) e)
    | inr e ↦ ap (λ b. if b then 2 else 0) e ∙ sym (ap (λ b. 2 * (if b then 1 else 0)) e)
  ])

  -- masks stand before their product, and all of these before the inputs and the gates
  pub mask_first : (t : ℕ) (side : Side) → Inside x (Mask_product t) → session_slot_number x (Mask t side) < session_slot_number x (Mask_product t)
  mask_first t First inside = omega (arith, masks_before_product x t inside.0 inside.1)
  mask_first t Second inside = masks_before_product x t inside.0 inside.1

  pub mask_product_first : (t n : ℕ) → Inside x (Mask_product t) → session_slot_number x (Mask_product t) < first_of_gate x n
  mask_product_first t n inside = omega (arith, product_before_inputs x t inside.0 inside.1)

  pub input_first : (v n : ℕ) → v < length (owners x) → session_slot_number x (Input v) < first_of_gate x n
  input_first v n l = omega (arith, l)

  -- what is opened of a prepared product stands before it
  pub masked_behind : (t : ℕ) (side : Side) → first_of_gate x t ≤ session_slot_number x (Masked t side)
  masked_behind t First = omega arith
  masked_behind t Second = omega arith

  pub masked_first : (t : ℕ) (side : Side) → is_prepared x t ≡ true → session_slot_number x (Masked t side) < session_slot_number x (At_gate t)
  masked_first t First e = omega (arith, two_ones t, one_is t e)
  masked_first t Second e = omega (arith, two_ones t, one_is t e)

  -- and the slots of a gate before those of the next
  pub gate_first : (t n : ℕ) → t < n → session_slot_number x (At_gate t) < first_of_gate x n
  gate_first t n l = omega (arith, two_ones t, counted t n l, l)

  -- gates stand in their order
  pub earlier_gate : (t u : ℕ) → session_slot_number x (At_gate u) < session_slot_number x (At_gate t) → u < t
  earlier_gate t u less = elim (cases_lt u t) [
    | inl l ↦ l
    | inr past ↦ elim (cases_eq u t) [
      | inl e ↦ absurd (let same : session_slot_number x (At_gate u) ≡ session_slot_number x (At_gate t) = ap (λ z. session_slot_number x (At_gate z)) e in omega (arith, less, same))
      | inr ne ↦ absurd (omega (arith, less, gate_first t u (omega (arith, past, ne))))
    ]
  ]
