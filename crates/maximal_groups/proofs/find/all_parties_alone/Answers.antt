use Rattle.maximal_groups.proofs.Lists.{all_alone}
use Rattle.maximal_groups.proofs.find.all_parties_alone.Goals as goal

pub returns : goal.returns
returns c = all_alone
