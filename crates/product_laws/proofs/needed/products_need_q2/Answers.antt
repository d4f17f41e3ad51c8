use Rattle.product_laws.proofs.NeededQ2.{pairs_need, duties_multiply, products_need}
use Rattle.product_laws.proofs.needed.products_need_q2.Goals as goal

pub returns-clause-pairs : goal.returns-clause-pairs
returns-clause-pairs c = pairs_need

pub returns-clause-made : goal.returns-clause-made
returns-clause-made c = products_need

pub returns-clause-duties : goal.returns-clause-duties
returns-clause-duties c = duties_multiply
