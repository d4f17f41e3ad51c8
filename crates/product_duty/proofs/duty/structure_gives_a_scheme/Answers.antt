use Rattle.secret_sharing.proofs.PairDuties.{scheme}
use Rattle.product_duty.proofs.duty.structure_gives_a_scheme.Goals as goal

pub returns : goal.returns
returns c = scheme
