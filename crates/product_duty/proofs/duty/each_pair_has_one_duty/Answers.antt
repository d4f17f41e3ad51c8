use Rattle.product_duty.proofs.PairDuties.{each_duty}
use Rattle.product_duty.proofs.duty.each_pair_has_one_duty.Goals as goal

pub returns : goal.returns
returns c = each_duty
