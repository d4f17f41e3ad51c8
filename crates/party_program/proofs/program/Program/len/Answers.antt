use Rattle.std.proofs.Common.{sym, ◌∙◌}
use Rattle.party_program.proofs.ProgramPlaces.{length-program}
use Rattle.party_program.proofs.program.Program.len.Goals as goal

pub returns : goal.returns
returns c = λ plan p s is. is.length ∙ sym (length-program plan p s)
