use Rattle.std.proofs.Common.{◌≡◌, ℕ, [], length}
use Rattle.std.specs.Prelude.{slice_index_or}
use Rattle.plan_model.specs.InputWords.{session_words}
use Rattle.plan_model.specs.Plans.{KeepsCarried}
use Rattle.wire_tables.specs.WireTables.{value_at}
use Rattle.wire_tables.proofs.HandedOn.{SoFar}
use Rattle.wire_tables.proofs.values.hand_on.Given as goal

-- the values of the kept wires so far are handed on; those of the session itself stay
abbrev pub invariant-loop-kept : goal.invariant-loop-kept
invariant-loop-kept l = record {
  sessions : length l.lists ≡ length l.plan.sessions;
  lengths : (u : ℕ) → length (slice_index_or (session_words l.lists) u []) ≡ length (slice_index_or (session_words l.fn.lists) u []);
  own : slice_index_or (session_words l.lists) l.s [] ≡ slice_index_or (session_words l.fn.lists) l.s [];
  handed_on : (keeps : KeepsCarried l.plan) → SoFar l.plan keeps l.s (value_at (session_words l.fn.lists) l.s) (value_at (session_words l.fn.lists)) l.kept-index (value_at (session_words l.lists));
}
