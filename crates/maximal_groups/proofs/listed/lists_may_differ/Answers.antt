use Rattle.maximal_groups.proofs.Lists.{lists_differ}
use Rattle.maximal_groups.proofs.listed.lists_may_differ.Goals as goal

pub returns : goal.returns
returns c = lists_differ
