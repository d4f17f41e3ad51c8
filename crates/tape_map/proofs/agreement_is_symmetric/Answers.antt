use Rattle.tape_map.proofs.ChangedTapes.{agrees_back}
use Rattle.tape_map.proofs.agreement_is_symmetric.Goals as goal

pub returns : goal.returns
returns c = agrees_back
