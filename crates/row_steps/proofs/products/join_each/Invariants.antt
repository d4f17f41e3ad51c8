use Rattle.std.proofs.Common.{◌<◌, ◌^◌, All}
use Rattle.secret_sharing.specs.Prepared.{joined_summand}
use Rattle.row_steps.specs.Rows.{row, SameRows, filled_to}
use Rattle.row_steps.proofs.products.join_each.Given as goal

-- the summands below i are joined
abbrev pub invariant-loop-i : goal.invariant-loop-i
invariant-loop-i l = record {
  small : All (λ x. x < 2 ^ l.ring) l.table;
  rows : SameRows l.shares (row l.shares l.table) (filled_to (row l.shares l.fn.table) l.number (joined_summand (2 ^ l.ring) l.fn.excess.0 l.fn.excess.1 (row l.shares l.fn.table l.masks.first) (row l.shares l.fn.table l.masks.second) (row l.shares l.fn.table l.masks.output)) l.i);
}
