use Rattle.walk_laws.proofs.CallsInARow.{one_status}
use Rattle.walk_laws.proofs.laws.a_call_again_has_the_same_status.Goals as goal

pub returns : goal.returns
returns c = one_status
