use Rattle.wire_tables.specs.WireTables.{AreCarried, world_of}
use Rattle.wire_tables.proofs.word.carried_before.Given as goal

-- what is carried of the sessions so far
abbrev pub invariant-loop-r : goal.invariant-loop-r
invariant-loop-r l = AreCarried (world_of l.world) l.r l.carried
