use Rattle.node_run.proofs.NodeParts.{some_node}
use Rattle.node_run.proofs.laws.every_node_part_is_of_a_world.Goals as goal

pub returns : goal.returns
returns c = some_node
