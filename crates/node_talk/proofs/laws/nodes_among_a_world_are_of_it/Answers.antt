use Rattle.node_talk.proofs.RightRuns.{joins}
use Rattle.node_talk.proofs.laws.nodes_among_a_world_are_of_it.Goals as goal

pub returns : goal.returns
returns c = λ n got r before after whole lp done talked hears. joins n whole lp got before after talked hears r done
