use Rattle.std.proofs.Common.{◌≡◌, ℕ, ◌+◌, ◌%◌, ◌<◌, ◌≤◌, ◌^◌, if◌then◌else◌, All}
use Rattle.std.specs.Prelude.{slice_index}
use Rattle.row_steps.specs.Rows.{row, SameRows, filled_to}
use Rattle.row_steps.proofs.products.sum_each.Given as goal

abbrev pub invariant-loop-i : goal.invariant-loop-i
invariant-loop-i l = record {
  small : All (λ x. x < 2 ^ l.ring) l.table;
  small_sums : All (λ x. x < 2 ^ l.ring) l.sums;
  rows : SameRows l.shares (row l.shares l.table) (filled_to (row l.shares l.fn.table) l.number (λ i. ((if l.dealt then row l.shares l.fn.table l.number i else 0) + slice_index l.fn.sums i) % 2 ^ l.ring) l.i);
  done : (i : ℕ) → i < l.i → slice_index l.sums i ≡ 0;
  left : (i : ℕ) → l.i ≤ i → slice_index l.sums i ≡ slice_index l.fn.sums i;
}
