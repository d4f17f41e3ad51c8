use Rattle.walk_laws.proofs.NodeWorlds.{nodes_are_parts, nodes_have_their_parts, nodes_agree, parts_make_a_world, talks_make_a_network}
use Rattle.walk_laws.proofs.laws.nodes_have_parts_of_a_world.Goals as goal

pub returns-clause-fits : goal.returns-clause-fits
returns-clause-fits c = nodes_are_parts

pub returns-clause-own : goal.returns-clause-own
returns-clause-own c = nodes_have_their_parts

pub returns-clause-agree : goal.returns-clause-agree
returns-clause-agree c = nodes_agree

pub returns-clause-whole : goal.returns-clause-whole
returns-clause-whole c = parts_make_a_world

pub returns-clause-network : goal.returns-clause-network
returns-clause-network c = talks_make_a_network
