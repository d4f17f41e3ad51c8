use Rattle.number_laws.proofs.RunCosts.{kept_few}
use Rattle.number_laws.proofs.kept_products_are_few.Goals as goal

pub returns : goal.returns
returns c = kept_few
