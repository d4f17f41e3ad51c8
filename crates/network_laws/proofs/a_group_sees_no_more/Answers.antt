use Rattle.network_laws.proofs.GroupViews.{sees_no_more}
use Rattle.network_laws.proofs.a_group_sees_no_more.Goals as goal

pub returns : goal.returns
returns c = sees_no_more
