use Rattle.secret_sharing.proofs.SummandSums.{sum_is_plain}
use Rattle.secret_sharing.proofs.summands_add_up.Goals as goal

pub returns : goal.returns
returns c = sum_is_plain
