use Rattle.number_laws.specs.Depths.{IsNoDeeper, AreWithin}
use Rattle.number_laws.proofs.RunMakes.{kept_value}
use Rattle.number_laws.proofs.kept_gates_are_shallow.Goals as goal

pub returns : goal.returns
returns c = λ depth steps d. kept_value (IsNoDeeper depth) steps (AreWithin depth d)
