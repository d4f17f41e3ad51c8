use Rattle.number_laws.proofs.CostLaws.{few_are}
use Rattle.number_laws.proofs.gates_are_few.Goals as goal

pub returns : goal.returns
returns c = few_are
