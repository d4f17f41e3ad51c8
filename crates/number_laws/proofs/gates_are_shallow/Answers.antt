use Rattle.number_laws.proofs.CostLaws.{shallow_are}
use Rattle.number_laws.proofs.gates_are_shallow.Goals as goal

pub returns : goal.returns
returns c = shallow_are
