use Rattle.party_program.specs.ProgramPlaces.{IsPlace}
use Rattle.party_program.proofs.program.Program.instruction.Given as goal

abbrev pub invariant-loop : goal.invariant-loop
invariant-loop l = IsPlace l.plan l.self.party l.self.session l.place l.counter
