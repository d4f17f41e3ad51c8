use Rattle.party_program.specs.ProgramPlaces.{AreReceived}
use Rattle.party_program.proofs.received.list_received.Given as goal

abbrev pub invariant-loop-r : goal.invariant-loop-r
invariant-loop-r l = AreReceived l.plan l.s l.r l.received.items
