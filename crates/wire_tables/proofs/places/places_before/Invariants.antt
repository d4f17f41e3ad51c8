use Rattle.wire_tables.specs.Places.{ArePlaces}
use Rattle.wire_tables.proofs.places.places_before.Given as goal

abbrev pub invariant-loop-j : goal.invariant-loop-j
invariant-loop-j l = ArePlaces l.plan l.s l.j l.places.items
