-- The slot in which an instruction stands is that of the message that it names.
use Rattle.std.proofs.Common.{◌≡◌, ℕ, ◌<◌, length, sym, ap, ap₂, ◌∙◌, subst, arith}
use Rattle.std.specs.List.{AllByRecursion}
use Rattle.std.proofs.lemmas.Bool.{cases_lt}
use mathlib.Core.Logic.{inl, inr}
use Rattle.session_slots.specs.declared.source.Source.{Source}
use Rattle.session_slots.specs.declared.source.Source.TheVariants.{Given, Earlier}
use Rattle.session_slots.specs.Sessions.{Slot, source}
use Rattle.session_slots.specs.Sessions.Slot.{Input, At_gate, Output, Mask, Mask_product, Masked, Kept}
use Rattle.session_slots.proofs.SessionSlots.{slots_are_numbered}
use Rattle.plan_model.specs.Plans.{Plan, session, slot, slot_number, slots}
use Rattle.plan_model.specs.Numbers.{message}
use Rattle.plan_model.specs.Firsts.{numbers}
use Rattle.plan_model.specs.Sound.{IsSound}
use Rattle.plan_model.specs.declared.pattern.Pattern.TheVariants.{Multiplied}
use Rattle.plan_model.specs.Patterns.{input_pattern, pattern}
use Rattle.plan_model.proofs.DistinctMessages.{every_place}
use Rattle.plan_model.proofs.SlotMessages.{every_filter}
use Rattle.program_model.specs.declared.half.Half.{Half}
use Rattle.program_model.specs.declared.half.Half.TheVariants.{Head, Tail}
use Rattle.party_program.specs.declared.place.Place.{Place}
use Rattle.program_model.specs.declared.instruction.Instruction.TheVariants.{End}
use Rattle.program_model.specs.Programs.{at, from, half_program, program, taken, to}
use Rattle.party_program.specs.ProgramPlaces.{IsPlace}
use Rattle.party_program.proofs.ProgramPlaces.{count_at, ends_there, in_slot as slot_in, instruction_is}
use Rattle.program_model.specs.Proper.{IsSessionMessage, IsSlot, IsTakenMessage, Multiplies}
use Rattle.program_model.specs.States.{slot_of, taking_slot}
use Rattle.party_desk.specs.declared.desk.Desk.{Desk}
use Rattle.party_desk.specs.Desks.{NamesSlot, Stands}
use Rattle.program_laws.proofs.ProgramParts.{every_closing, every_head, every_opening, every_tail, in_slot, taken_in_slot}

-- a slot of a product is of a gate, or of a product of masks
pub product_in_slot : (plan : Plan) (s : ℕ) (z : Slot) → pattern plan s z ≡ Multiplied → Multiplies z
product_in_slot plan s (At_gate t) e = tt
product_in_slot plan s (Mask_product t) e = tt
product_in_slot plan s (Input v) e = of_input (source (session plan s) v) e
  where
    of_input : (from : Source) → input_pattern from ≡ Multiplied → Multiplies (Input v)
    of_input (Given p) e = cc
    of_input (Earlier r c i) e = cc
product_in_slot plan s (Output o) e = cc
product_in_slot plan s (Mask t side) e = cc
product_in_slot plan s (Masked t side) e = cc
product_in_slot plan s (Kept place) e = cc

module _ (plan : Plan) (sound : IsSound plan) (s p : ℕ) (ls : s < length plan.sessions) where
  -- the messages that are posted or taken in a half of a slot name it
  names_half : (half : Half) (k : ℕ) → k < slots plan s → AllByRecursion (λ e. NamesSlot plan s e k) (half_program plan p s half k)
  names_half Head k lk =
      every_head plan s p (λ e. NamesSlot plan s e k) k
      (every_opening plan s p (λ e. NamesSlot plan s e k) k (record { draws = λ t side e some. tt; inputs = λ v e b. tt; products = λ z e is b. (tt, tt); linears = λ t e b. tt }))
      (every_filter _ _ (from plan p) (numbers plan s k) (in_slot plan sound s p ls k lk) (λ n of e. of.1.0))
  names_half Tail k lk =
      every_tail plan s p (λ e. NamesSlot plan s e k) k
      (every_filter _ _ (to plan p) (taken plan s k) (taken_in_slot plan sound s p ls k lk) (λ n it e. ap (slot_number plan s) it.same ∙ (slots_are_numbered (session plan s)).number k lk))
      (every_closing plan s p (λ e. NamesSlot plan s e k) k (record { sums = λ z e is. tt; opens = λ t side e. tt; joins = λ t e b. tt; delivers = λ o e. tt }))

  pub names_slot : (place : Place) (q : ℕ) → IsPlace plan p s place q → NamesSlot plan s (at (program plan p s) q) place.slot
  names_slot place q here = elim (cases_lt place.done place.count) [
    | inr past ↦ subst (λ i. NamesSlot plan s i place.slot) (sym (ends_there plan p s place q here past)) tt
    | inl left ↦
        let there = slot_in plan p s place q here left in
        let short : place.done < length (half_program plan p s place.half place.slot) = omega (arith, left, here.count ∙ count_at plan p s place.half place.slot there) in
        subst (λ i. NamesSlot plan s i place.slot) (sym (instruction_is plan p s place q here left))
        (every_place (λ i. NamesSlot plan s i place.slot) (half_program plan p s place.half place.slot) place.done End (names_half place.half place.slot there) short)
  ]

-- a desk at a slot that is there
module _ (plan : Plan) (d : Desk) (stands : Stands plan d) (there : d.place.slot < slots plan d.session) where
  at_product : d.place.pattern ≡ Multiplied → IsSlot plan d.session d.place.slot Multiplies
  at_product product = record { kind = product_in_slot plan d.session (slot plan d.session d.place.slot) (sym (stands.place.pattern there) ∙ product); slot = there }

-- a desk at a message of its session, which is of the desk's slot
module _ (plan : Plan) (d : Desk) (stands : Stands plan d) (n i : ℕ) (proper : IsSessionMessage plan d.session n i) (here : (message plan n).slot ≡ d.place.slot) where
  pub same_slot : slot plan d.session d.place.slot ≡ slot_of plan n
  same_slot = ap₂ (slot plan) (sym proper.session) (sym here)

  pub slot_there : d.place.slot < slots plan d.session
  slot_there = subst (λ k. k < slots plan d.session) here (subst (λ z. (message plan n).slot < slots plan z) proper.session proper.slot)

  -- where it stands at a product
  module _ (product : d.place.pattern ≡ Multiplied) where
    pub product_slot : IsSlot plan d.session d.place.slot Multiplies
    product_slot = at_product plan d stands slot_there product

-- a desk at a message that is taken in its session, in the desk's slot
module _ (plan : Plan) (d : Desk) (stands : Stands plan d) (n i : ℕ) (proper : IsTakenMessage plan d.session n i) (here : slot_number plan d.session (taking_slot plan n) ≡ d.place.slot) where
  pub same_taken : slot plan d.session d.place.slot ≡ taking_slot plan n
  same_taken = ap (slot plan d.session) (sym here) ∙ proper.taken_is

  pub taken_there : d.place.slot < slots plan d.session
  taken_there = subst (λ k. k < slots plan d.session) here proper.taken

  pub taken_product : d.place.pattern ≡ Multiplied → Multiplies (taking_slot plan n)
  taken_product product = subst Multiplies same_taken (at_product plan d stands taken_there product).kind
