use Rattle.secret_sharing.proofs.PreparedSums.{prepared_sum}
use Rattle.secret_sharing.proofs.prepared_products_add_up.Goals as goal

pub returns : goal.returns
returns c = prepared_sum
