use Rattle.q2_test.proofs.Orders.{all_pair, all_fails}
use Rattle.q2_test.proofs.all_parties_cover_alone.Goals as goal

pub returns-clause-pair : goal.returns-clause-pair
returns-clause-pair c = all_pair

pub returns-clause-fails : goal.returns-clause-fails
returns-clause-fails c = all_fails
