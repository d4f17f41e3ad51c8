use Rattle.std.proofs.Common.{◌≡◌, [], length}
use Rattle.std.specs.Prelude.{slice_index_or}
use Rattle.plan_model.specs.InputWords.{input_words, session_words}
use Rattle.plan_model.specs.Plans.{KeepsCarried}
use Rattle.wire_tables.specs.WireTables.{row_at}
use Rattle.wire_tables.proofs.HandedOn.{SoFar}
use Rattle.wire_tables.proofs.carried.CarriedRows.hand_on.Given as goal

-- the rows of the kept wires so far are handed on
abbrev pub invariant-loop-kept : goal.invariant-loop-kept
invariant-loop-kept l = record {
  sessions : length l.self-inside.rows.items ≡ length l.plan.sessions;
  handed_on : (keeps : KeepsCarried l.plan) → SoFar l.plan keeps l.s (λ v. slice_index_or (session_words l.rows) v []) (row_at l.fn.self) l.kept-index (row_at (input_words l.self-inside.rows.items));
}
