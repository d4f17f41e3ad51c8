use Rattle.sample_maker.proofs.WorkedSamples.{one_is, five_is}
use Rattle.sample_maker.proofs.laws.small_samples_are_as_worked.Goals as goal

pub returns-clause-one : goal.returns-clause-one
returns-clause-one c = one_is

pub returns-clause-five : goal.returns-clause-five
returns-clause-five c = five_is
