use Rattle.maximal_groups.proofs.Lists.{as_list}
use Rattle.maximal_groups.proofs.listed.maximal_groups_as_a_list.Goals as goal

pub returns : goal.returns
returns c = as_list
