use Rattle.group_formula.proofs.Monotonicity.{everybody_of}
use Rattle.group_formula.proofs.formula.all_parties_are_qualified.Goals as goal

pub returns : goal.returns
returns c = everybody_of
