use Rattle.std.proofs.Common.{◌≡◌, ℕ, ◌<◌, ◌≤◌}
use Rattle.std.specs.Prelude.{slice_index}
use Rattle.row_steps.specs.Rows.{row, shares_of, held_or}
use Rattle.row_steps.proofs.opener.Opener.put_held.Given as goal

-- the summands below i are in place, and the others are as they were
abbrev pub invariant-loop-i : goal.invariant-loop-i
invariant-loop-i l = record {
  done : (k : ℕ) → k < l.i → slice_index l.sums k ≡ held_or l.self (row (shares_of l.self) l.self.table.now l.number) (slice_index l.fn.sums) k;
  left : (k : ℕ) → l.i ≤ k → slice_index l.sums k ≡ slice_index l.fn.sums k;
}
