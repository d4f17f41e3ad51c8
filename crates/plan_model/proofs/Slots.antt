-- The slots of a session of a plan.
use Rattle.std.proofs.Common.{◌≡◌, ℕ, zero, suc, ◌<◌, ◌≤◌, Bool, true, false, if◌then◌else◌, length, arith}
use Rattle.session_slots.specs.Sessions.{Session, is_prepared, session_slots}
use Rattle.session_slots.specs.SoundSessions.{IsWired}
use Rattle.session_slots.specs.SlotNumbers.{prepared_before}
use Rattle.plan_model.specs.Plans.{Plan, session, slot, slots, slot_number}
use Rattle.session_slots.proofs.SessionSlots.{slots_are_numbered}

pub at_its_number : (plan : Plan) (s k : ℕ) → k < slots plan s → slot_number plan s (slot plan s k) ≡ k
at_its_number plan s k lk = (slots_are_numbered (session plan s)).number k lk

few_prepared : (s : Session) (t : ℕ) → prepared_before s t ≤ t
few_prepared s zero = omega arith
few_prepared s (suc t) = (let one = at_most_one (is_prepared s t) in omega (arith, few_prepared s t, one))
  where
    at_most_one : (b : Bool) → (if b then 1 else 0) ≤ 1
    at_most_one true = omega arith
    at_most_one false = omega arith

pub few_slots : (s : Session) → IsWired s → session_slots s ≤ 2752512
few_slots s h = omega (arith, h.wires, h.gates, h.input_wires, h.output_wires, few_prepared s (length s.gates), h.kept.few, (slots_are_numbered s).count)
