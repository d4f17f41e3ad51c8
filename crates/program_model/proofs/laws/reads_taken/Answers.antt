use Rattle.program_model.proofs.StateReads.{state_same}
use Rattle.program_model.proofs.laws.reads_taken.Goals as goal

pub returns : goal.returns
returns c = state_same
