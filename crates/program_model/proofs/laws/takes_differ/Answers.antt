use Rattle.program_model.proofs.DifferentTakes.{takes_differ}
use Rattle.program_model.proofs.laws.takes_differ.Goals as goal

pub returns : goal.returns
returns c = takes_differ
