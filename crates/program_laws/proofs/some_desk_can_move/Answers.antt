use Rattle.program_laws.proofs.Ranks.{one_moves, some_session_moves}
use Rattle.program_laws.proofs.some_desk_can_move.Goals as goal

pub returns-clause-least : goal.returns-clause-least
returns-clause-least c plan position s p sound = one_moves plan position sound s p

pub returns-clause-some : goal.returns-clause-some
returns-clause-some c plan position s p sound = some_session_moves plan position sound s p
