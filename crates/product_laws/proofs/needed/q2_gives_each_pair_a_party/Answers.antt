use Rattle.product_laws.proofs.NeededQ2.{nobody_holds_both, q2_is_duty}
use Rattle.product_laws.proofs.needed.q2_gives_each_pair_a_party.Goals as goal

pub returns-clause-lonely : goal.returns-clause-lonely
returns-clause-lonely c = nobody_holds_both

pub returns-clause-duty : goal.returns-clause-duty
returns-clause-duty c = q2_is_duty
