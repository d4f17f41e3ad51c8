use Rattle.number_laws.specs.Reading.{IsBelow, AreOpen}
use Rattle.number_laws.proofs.RunReads.{kept_fits}
use Rattle.number_laws.proofs.kept_gates_read_wires_before.Goals as goal

pub returns : goal.returns
returns c = λ m steps old result new. kept_fits m steps old result new (λ g. AreOpen (IsBelow m g))
