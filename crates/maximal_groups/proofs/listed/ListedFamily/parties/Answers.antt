use Rattle.maximal_groups.proofs.Lists.{list_is_family}
use Rattle.maximal_groups.proofs.listed.ListedFamily.parties.Goals as goal

pub returns-clause-family : goal.returns-clause-family
returns-clause-family c = list_is_family c.args.self.now.parties c.args.self.now.groups
