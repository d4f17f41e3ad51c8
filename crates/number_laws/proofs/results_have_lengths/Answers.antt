use Rattle.number_laws.proofs.CostLaws.{lengths_are}
use Rattle.number_laws.proofs.results_have_lengths.Goals as goal

pub returns : goal.returns
returns c = lengths_are
