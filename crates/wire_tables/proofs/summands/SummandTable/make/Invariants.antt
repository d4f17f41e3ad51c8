use Rattle.wire_tables.specs.Places.{ArePlaces}
use Rattle.wire_tables.specs.Steps.{AreRows}
use Rattle.wire_tables.specs.WireTables.{world_of}
use Rattle.wire_tables.proofs.summands.SummandTable.make.Given as goal

-- the rows and the places before slot k
abbrev pub invariant-loop-k : goal.invariant-loop-k
invariant-loop-k l = record {
  places : ArePlaces l.world.plan.now l.s l.k l.places.items;
  rows : AreRows (world_of l.world) l.s l.k l.rows.items;
}
