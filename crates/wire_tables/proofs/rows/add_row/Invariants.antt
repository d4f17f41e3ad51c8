use Rattle.std.proofs.Common.{◌≡◌, ℕ, ◌+◌, ◌%◌, ◌^◌, ◌<◌, ◌≤◌, All, length}
use Rattle.std.specs.Prelude.{slice_index}
use Rattle.wire_tables.proofs.rows.add_row.Given as goal

-- the summands so far are added
abbrev pub invariant-loop-i : goal.invariant-loop-i
invariant-loop-i l = record {
  long : length l.sums ≡ length l.fn.sums;
  small : All (λ word. word < 2 ^ l.ring) l.sums;
  added : (k : ℕ) → k < l.i → slice_index l.sums k ≡ (slice_index l.fn.sums k + slice_index l.row k) % 2 ^ l.ring;
  left : (k : ℕ) → l.i ≤ k → slice_index l.sums k ≡ slice_index l.fn.sums k;
}
