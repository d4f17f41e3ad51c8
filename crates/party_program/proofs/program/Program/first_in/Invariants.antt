use Rattle.std.proofs.Common.{◌≡◌}
use Rattle.party_program.specs.ProgramPlaces.{position_of}
use Rattle.party_program.proofs.program.Program.first_in.Given as goal

-- no instruction stands in the halves that were passed
abbrev pub invariant-loop-k : goal.invariant-loop-k
invariant-loop-k l =
    position_of l.plan l.self.party l.self.session l.at.half l.at.batch l.at.end l.k ≡ position_of l.plan l.self.party l.self.session l.at.half l.at.batch l.at.end l.at.slot
