use Rattle.tape_map.proofs.ChangedTapes.{hidden_is_first}
use Rattle.tape_map.proofs.hidden_is_first.Goals as goal

pub returns : goal.returns
returns c = hidden_is_first
