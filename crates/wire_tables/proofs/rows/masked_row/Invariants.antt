use Rattle.std.proofs.Common.{◌≡◌, ◌^◌}
use Rattle.std.specs.Prelude.{slice_index}
use Rattle.list_laws.specs.Lists.{listed}
use Rattle.mpc_ring.specs.Differences.{difference}
use Rattle.wire_tables.proofs.rows.masked_row.Given as goal

abbrev pub invariant-loop-i : goal.invariant-loop-i
invariant-loop-i l = l.row.items ≡ listed l.i (λ i. difference (2 ^ l.ring) (slice_index l.x i) (slice_index l.mask i))
