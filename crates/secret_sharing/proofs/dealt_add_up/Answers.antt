use Rattle.mpc_ring.proofs.Remainders.{mods_of_same}
use Rattle.secret_sharing.proofs.SummandSums.{dealt_sum}
use Rattle.secret_sharing.proofs.dealt_add_up.Goals as goal

pub returns : goal.returns
returns c = λ s h v words. mods_of_same (dealt_sum s h v words)
