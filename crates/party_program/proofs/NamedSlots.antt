-- The slots whose messages are taken in a slot.
use Rattle.std.proofs.Common.{◌≡◌, ℕ, ◌+◌, ◌<◌, ◌≤◌, Bool, true, false, List, length, refl, sym, ap, ◌∙◌, arith}
use Rattle.std.proofs.lemmas.List.{get_or_past}
use Rattle.circuit_model.specs.Circuits.{is_product}
use Rattle.session_slots.specs.declared.source.Source.{Source}
use Rattle.session_slots.specs.declared.source.Source.TheVariants.{Given, Earlier}
use Rattle.session_slots.specs.Sessions.{Slot, gate, readers, slot_list, source}
use Rattle.session_slots.specs.Sessions.Slot.{Input, At_gate, Output, Mask, Mask_product, Masked, Kept}
use Rattle.session_slots.specs.SlotNumbers.{first_input}
use Rattle.plan_model.specs.declared.pattern.Pattern.TheVariants.{Received}
use Rattle.plan_model.specs.Plans.{IsPlan, Plan, keeping_slot, session, slot, slot_number, slots}
use Rattle.plan_model.specs.Firsts.{first}
use Rattle.plan_model.specs.Messages.{messages}
use Rattle.plan_model.specs.Patterns.{input_pattern, pattern, pattern_at}
use Rattle.plan_model.specs.Sound.{IsSound}
use Rattle.plan_model.proofs.KeptPlaces.{kept_in}
use Rattle.plan_model.proofs.SlotMessages.{first_within}
use Rattle.plan_model.proofs.Slots.{at_its_number}
use Rattle.program_model.specs.Programs.{first_in, first_named, first_of_input}
use Rattle.party_program.specs.ProgramPlaces.{AreReceived, IsListed}
use Rattle.party_program.proofs.FollowedPatterns.{gate_pattern}

module _ (plan : Plan) (is : IsPlan plan) (s k : ℕ) (ls : s < length plan.sessions) (lk : k < slots plan s) where
  -- the first message that a slot names is one of the plan, or behind the last
  named_within : (z : Slot) → first_in plan s k z ≤ length (messages plan)
  named_within (Input v) = of_input (source (session plan s) v) refl
    where
      of_input : (from : Source) → source (session plan s) v ≡ from → first_of_input plan s k v from ≤ length (messages plan)
      of_input (Given p) e = first_within plan s k ls (omega (arith, lk))
      of_input (Earlier r c i) e =
          let at = kept_in plan is s v r c i e in
          first_within plan r (keeping_slot plan s v r) (omega (arith, at.earlier, ls)) (omega (arith, at.slot_there))
  named_within (At_gate t) = first_within plan s k ls (omega (arith, lk))
  named_within (Output o) = first_within plan s k ls (omega (arith, lk))
  named_within (Mask t side) = first_within plan s k ls (omega (arith, lk))
  named_within (Mask_product t) = first_within plan s k ls (omega (arith, lk))
  named_within (Masked t side) = first_within plan s k ls (omega (arith, lk))
  named_within (Kept j) = first_within plan s k ls (omega (arith, lk))

pub few_named : (plan : Plan) → IsPlan plan → IsSound plan → (s k : ℕ) → s < length plan.sessions → k < slots plan s → first_named plan s k ≤ 1048576
few_named plan is sound s k ls lk = omega (arith, named_within plan is s k ls lk (slot plan s k), sound.few_messages)

-- a slot in which a wire is received is that of an input wire that is carried
pub record IsReceivedAt (plan : Plan) (s : ℕ) (z : Slot) : Type 0 where
  pub wire : ℕ
  pub from : ℕ
  pub value : ℕ
  pub place : ℕ
  pub slot_is : z ≡ Input wire
  pub carried : source (session plan s) wire ≡ Earlier from value place

module _ (plan : Plan) (s : ℕ) where
  pub received_at : (z : Slot) → pattern plan s z ≡ Received → IsReceivedAt plan s z
  received_at (Input v) e = of_input (source (session plan s) v) refl e
    where
      of_input : (from : Source) → source (session plan s) v ≡ from → input_pattern from ≡ Received → IsReceivedAt plan s (Input v)
      of_input (Given p) same e = absurd cc
      of_input (Earlier r c i) same e = record { wire = v; from = r; value = c; place = i; slot_is = refl; carried = same }
  received_at (At_gate t) e = absurd (not_gate (session plan s).prepared (is_product (gate (session plan s) t).operation) e)
    where
      not_gate : (prepared product : Bool) → gate_pattern prepared product ≡ Received → ⊥
      not_gate true true e = cc
      not_gate true false e = cc
      not_gate false true e = cc
      not_gate false false e = cc
  received_at (Output o) e = absurd cc
  received_at (Mask t side) e = absurd cc
  received_at (Mask_product t) e = absurd cc
  received_at (Masked t side) e = absurd cc
  received_at (Kept j) e = absurd cc

  -- every other slot names its own messages
  pub named_own : (k : ℕ) (z : Slot) → (pattern plan s z ≡ Received → ⊥) → first_in plan s k z ≡ first plan s k
  named_own k (Input v) other = of_input (source (session plan s) v) other
    where
      of_input : (from : Source) → (input_pattern from ≡ Received → ⊥) → first_of_input plan s k v from ≡ first plan s k
      of_input (Given p) other = refl
      of_input (Earlier r c i) other = absurd (other refl)
  named_own k (At_gate t) other = refl
  named_own k (Output o) other = refl
  named_own k (Mask t side) other = refl
  named_own k (Mask_product t) other = refl
  named_own k (Masked t side) other = refl
  named_own k (Kept j) other = refl

  pub named_past : (k : ℕ) → slots plan s ≤ k → first_named plan s k ≡ first plan s k
  named_past k past = ap (first_in plan s k) (get_or_past (slot_list (session plan s)) k (Output (length (readers (session plan s)))) past)

-- what a list of received wires has for the wire of a slot in which one is received
module _ (plan : Plan) (is : IsPlan plan) (s k : ℕ) (lk : k < slots plan s) (carried : pattern_at plan s k ≡ Received) where
  at : IsReceivedAt plan s (slot plan s k)
  at = received_at plan s (slot plan s k) carried

  pub wire_of : ℕ
  wire_of = at.wire

  pub found_number : k ≡ first_input (session plan s) + wire_of
  unfolding wire_of
  found_number = sym (at_its_number plan s k lk) ∙ ap (slot_number plan s) at.slot_is

  pub found_named : (received : List ℕ) → AreReceived plan s s received → IsListed received wire_of (first_named plan s k)
  unfolding wire_of
  found_named received are =
      let listed = are at.wire at.from at.value at.place (is.earlier s at.wire at.from at.value at.place at.carried) at.carried in
      (listed.0, listed.1 ∙ sym (ap (first_in plan s k) at.slot_is ∙ ap (first_of_input plan s k at.wire) at.carried))
