use Rattle.share_layout.proofs.Holders.{held}
use Rattle.share_layout.proofs.layout.each_summand_is_held.Goals as goal

pub returns : goal.returns
returns c = held
