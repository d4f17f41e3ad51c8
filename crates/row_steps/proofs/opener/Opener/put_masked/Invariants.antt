use Rattle.std.proofs.Common.{◌≡◌, ℕ, ◌<◌, ◌≤◌, ◌^◌, All}
use Rattle.std.specs.Prelude.{slice_index}
use Rattle.row_steps.specs.Rows.{held_or, excess_row}
use Rattle.row_steps.proofs.opener.Opener.put_masked.Given as goal

-- the summands below i are in place, and the others are as they were
abbrev pub invariant-loop-i : goal.invariant-loop-i
invariant-loop-i l = record {
  small : All (λ x. x < 2 ^ l.self.ring) l.sums;
  done : (k : ℕ) → k < l.i → slice_index l.sums k ≡ held_or l.self (excess_row l.self l.x l.a) (slice_index l.fn.sums) k;
  left : (k : ℕ) → l.i ≤ k → slice_index l.sums k ≡ slice_index l.fn.sums k;
}
