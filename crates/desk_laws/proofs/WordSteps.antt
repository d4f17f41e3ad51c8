-- What a desk posts or takes next.
use Rattle.std.proofs.Common.{◌≡◌, ℕ, ◌<◌, ◌^◌, List, All, length, refl, sym, subst}
use Rattle.std.specs.Prelude.{slice_index}
use Rattle.std.proofs.lemmas.Bool.{cases_lt}
use Rattle.std.proofs.lemmas.List.{get_or_past}
use Rattle.std.proofs.lemmas.List.Elements.{All-get_or}
use Rattle.std.proofs.lemmas.Nat.{pow_pos}
use Rattle.std.proofs.Math.Nat.{mod-lt}
use mathlib.Core.Logic.{inl, inr}
use Rattle.session_slots.specs.Sessions.{Slot}
use Rattle.plan_model.specs.Plans.{Plan}
use Rattle.session_slots.specs.Sessions.Slot.{Input, At_gate, Output, Mask, Mask_product, Masked, Kept}
use Rattle.plan_model.specs.Messages.{messages}
use Rattle.plan_model.proofs.PlanSchemes.{plan_is}
use Rattle.program_model.specs.declared.instruction.Instruction.{Instruction}
use Rattle.program_model.specs.declared.instruction.Instruction.TheVariants.{Draw, Deal, Post, Take, Linear, Own, Sum, Open, Join, Deliver, End}
use Rattle.program_model.specs.States.{Given, State, slot_of, posted}
use Rattle.program_model.specs.Proper.{Proper}
use Rattle.program_laws.proofs.OncePosted.{once}
use Rattle.party_desk.specs.declared.desk.Desk.{Desk}
use Rattle.party_desk.specs.Memories.{state_of, row_of, on_wires, IsMemoryOf}
use Rattle.party_desk.specs.Desks.{IsDesk, instruction_at}
use Rattle.party_desk.proofs.AllowedSteps.{proper, posts_right}
use Rattle.desk_laws.specs.Words.{NextIs}

-- a word of a list of small words, or 0
small_of : (q : ℕ) (xs : List ℕ) (k : ℕ) → 0 < q → All (λ x. x < q) xs → slice_index xs k < q
small_of q xs k pos small = elim (cases_lt k (length xs)) [
  | inl l ↦ All-get_or (λ x. x < q) xs k 0 l small
  | inr past ↦ subst (λ z. z < q) (sym (get_or_past xs k 0 past)) pos
]

small_post : (plan : Plan) (s : ℕ) (d : Desk) (z : Slot) (i : ℕ) → IsMemoryOf plan s d.memory → posted plan s z i (on_wires (row_of d.memory) (state_of (length plan.groups) d.memory)) < 2 ^ plan.bits
small_post plan s d (Masked t side) i h = mod-lt _ (pow_pos plan.bits)
small_post plan s d (Input v) i h = small_of (2 ^ plan.bits) d.memory.rows.items _ (pow_pos plan.bits) h.small_rows
small_post plan s d (At_gate t) i h = small_of (2 ^ plan.bits) d.memory.rows.items _ (pow_pos plan.bits) h.small_rows
small_post plan s d (Output o) i h = small_of (2 ^ plan.bits) d.memory.rows.items _ (pow_pos plan.bits) h.small_rows
small_post plan s d (Mask t side) i h = small_of (2 ^ plan.bits) d.memory.rows.items _ (pow_pos plan.bits) h.small_rows
small_post plan s d (Mask_product t) i h = small_of (2 ^ plan.bits) d.memory.rows.items _ (pow_pos plan.bits) h.small_rows
small_post plan s d (Kept j) i h = small_of (2 ^ plan.bits) d.memory.rows.items _ (pow_pos plan.bits) h.small_rows

module _ (l : Given) (d : Desk) (is_desk : IsDesk l d) where
  next_at : (e : Instruction) → instruction_at l d ≡ e → NextIs l d.position e
  next_at (Post n j) is =
      let there : n < length (messages l.plan) = (subst (Proper l.plan l.session) is (proper l d is_desk)).number in
      let right = posts_right l d is_desk n j is in
      let here : State = on_wires (row_of d.memory) (state_of (length l.plan.groups) d.memory) in
      let small : posted l.plan l.session (slot_of l.plan n) j here < 2 ^ l.plan.bits = small_post l.plan l.session d (slot_of l.plan n) j is_desk.fits in (
        there,
        sym ((once l.plan n (plan_is l.plan is_desk.suits.sound) there).posted.alone l.party l.session d.position j is).0,
        subst (λ z. z < 2 ^ l.plan.bits) right (subst (λ z. posted l.plan z (slot_of l.plan n) j here < 2 ^ l.plan.bits) (sym is_desk.session) small),
      )
  next_at (Take n j) is =
      let there : n < length (messages l.plan) = (subst (Proper l.plan l.session) is (proper l d is_desk)).number in
      (there, sym ((once l.plan n (plan_is l.plan is_desk.suits.sound) there).taken.alone l.party l.session d.position j is).0)
  next_at (Draw k) is = tt
  next_at (Deal k j) is = tt
  next_at (Linear k) is = tt
  next_at (Own k) is = tt
  next_at (Sum k) is = tt
  next_at (Open k) is = tt
  next_at (Join k) is = tt
  next_at (Deliver k) is = tt
  next_at End is = tt

pub next_is : (l : Given) (d : Desk) → IsDesk l d → NextIs l d.position (instruction_at l d)
next_is l d h = next_at l d h (instruction_at l d) refl
