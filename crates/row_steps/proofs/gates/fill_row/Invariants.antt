use Rattle.std.proofs.Common.{◌<◌, ◌^◌, All}
use Rattle.secret_sharing.specs.Schemes.{local}
use Rattle.row_steps.specs.Rows.{row, SameRows, filled_to}
use Rattle.row_steps.proofs.gates.fill_row.Given as goal

abbrev pub invariant-loop-i : goal.invariant-loop-i
invariant-loop-i l = record {
  small : All (λ x. x < 2 ^ l.ring) l.table;
  rows : SameRows l.shares (row l.shares l.table) (filled_to (row l.shares l.fn.table) l.gate.output (λ i. local (2 ^ l.ring) l.operation l.gate.constant i (row l.shares l.fn.table l.gate.first i) (row l.shares l.fn.table l.gate.second i)) l.i);
}
