use Rattle.network_laws.proofs.GroupViews.{is_seen}
use Rattle.network_laws.proofs.a_group_sees_its_view.Goals as goal

pub returns : goal.returns
returns c = is_seen
