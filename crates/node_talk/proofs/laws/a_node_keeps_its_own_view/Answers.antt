use Rattle.node_talk.proofs.KeptViews.{own_view}
use Rattle.node_talk.proofs.laws.a_node_keeps_its_own_view.Goals as goal

pub returns : goal.returns
returns c = λ n got r whole lp done right. own_view n whole lp got right r done
