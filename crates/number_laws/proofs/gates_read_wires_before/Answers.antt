use Rattle.number_laws.specs.Reading.{IsBelow}
use Rattle.number_laws.proofs.CostLaws.{reading_are}
use Rattle.number_laws.proofs.gates_read_wires_before.Goals as goal

pub returns : goal.returns
returns c = λ m g. reading_are (IsBelow m g)
