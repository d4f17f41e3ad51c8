use Rattle.std.proofs.Common.{◌≡◌, ℕ, [], length}
use Rattle.std.specs.Prelude.{slice_index_or}
use Rattle.plan_model.specs.InputWords.{session_words}
use Rattle.wire_tables.proofs.carried.put_row.Given as goal

-- the rows are as they were, with rows without words behind them
abbrev pub invariant-loop-missing : goal.invariant-loop-missing
invariant-loop-missing l = record {
  long : length l.rows.items ≡ l._missing;
  same : (v : ℕ) → slice_index_or (session_words l.rows.items) v [] ≡ slice_index_or (session_words l.fn.rows.items) v [];
}
