use Rattle.plan_model.proofs.DistinctMessages.{numbers_are_inverse}
use Rattle.plan_model.proofs.laws.numbers_are_inverse.Goals as goal

pub returns : goal.returns
returns c = numbers_are_inverse
