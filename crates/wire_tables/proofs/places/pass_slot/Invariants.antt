use Rattle.std.proofs.Common.{◌≡◌, ℕ, ◌+◌, ◌<◌, ◌≤◌, length}
use Rattle.std.specs.Prelude.{slice_index}
use Rattle.plan_model.specs.Plans.{place}
use Rattle.wire_tables.proofs.places.pass_slot.Given as goal

-- the parties so far are behind the slot, the others are before it
abbrev pub invariant-loop-p : goal.invariant-loop-p
invariant-loop-p l = record {
  parties : length l.places ≡ l.plan.parties;
  passed : (q : ℕ) → q < l.p → slice_index l.places q ≡ place l.plan q l.s (l.k + 1);
  left : (q : ℕ) → l.p ≤ q → q < l.plan.parties → slice_index l.places q ≡ place l.plan q l.s l.k;
}
