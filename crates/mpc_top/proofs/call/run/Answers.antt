use Rattle.mpc_top.proofs.Runs.{of_words, refused_words}
use Rattle.mpc_top.proofs.call.run.Goals as goal

pub returns-in-Ok : goal.returns-in-Ok
returns-in-Ok g c = λ err err'. of_words _ _ _ _ _ c.in-Ok.ensures.taken (c.run_command.ensures err err')

pub returns-in-Err : goal.returns-in-Err
returns-in-Err g c = λ err err'. refused_words _ _ _ err err' _ _ c.in-Err.ensures.refused
