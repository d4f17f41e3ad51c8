use Rattle.std.proofs.Common.{◌≡◌}
use Rattle.list_laws.specs.Lists.{listed}
use Rattle.wire_tables.specs.Places.{mask_at}
use Rattle.wire_tables.specs.WireTables.{world_of}
use Rattle.wire_tables.proofs.rows.mask_into.Given as goal

abbrev pub invariant-loop-i : goal.invariant-loop-i
invariant-loop-i l = l.row.items ≡ listed l.i (mask_at (world_of l.world) l.places)
