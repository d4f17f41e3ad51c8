use Rattle.std.proofs.Common.{◌≡◌, ℕ, ◌<◌, ◌≤◌, [], length, replicate}
use Rattle.std.specs.Prelude.{slice_index_or}
use Rattle.plan_model.specs.InputWords.{session_words}
use Rattle.plan_model.specs.Plans.{session}
use Rattle.wire_tables.proofs.summands.unset_rows.Given as goal

-- zeros of the wires so far
abbrev pub invariant-loop-wire : goal.invariant-loop-wire
invariant-loop-wire l = record {
  long : length l.rows.items ≡ l._wire;
  wires : (v : ℕ) → v < l._wire → slice_index_or (session_words l.rows.items) v [] ≡ replicate (length l.plan.groups) 0;
}

-- and no words of the masks so far
abbrev pub invariant-loop-mask : goal.invariant-loop-mask
invariant-loop-mask l = record {
  long : length l.rows.items ≡ l._mask;
  wires : (v : ℕ) → v < (session l.plan l.s).wires → slice_index_or (session_words l.rows.items) v [] ≡ replicate (length l.plan.groups) 0;
  masks : (v : ℕ) → (session l.plan l.s).wires ≤ v → v < l._mask → slice_index_or (session_words l.rows.items) v [] ≡ [];
}
