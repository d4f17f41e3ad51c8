use Rattle.network_laws.proofs.CutTalks.{says_world, is_right}
use Rattle.network_laws.proofs.a_network_is_of_one_world.Goals as goal

pub returns-clause-said : goal.returns-clause-said
returns-clause-said c = says_world

pub returns-clause-right : goal.returns-clause-right
returns-clause-right c = is_right
