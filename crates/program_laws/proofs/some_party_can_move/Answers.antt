use Rattle.program_laws.proofs.GoingOn.{some_moves}
use Rattle.program_laws.proofs.some_party_can_move.Goals as goal

pub returns : goal.returns
returns c plan es position s p orders ended = some_moves plan es position s orders ended p
