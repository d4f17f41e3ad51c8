use Rattle.mpc_top.proofs.Runs.{of_words, refused_words}
use Rattle.mpc_top.proofs.AloneCalls.{not_node, none_is_no_node}
use Rattle.mpc_top.proofs.call.run_words.Goals as goal

pub returns-in-Ok : goal.returns-in-Ok
returns-in-Ok g c = (
  (λ asks. not_node _ _ c.run_alone.ensures.alone c.in-Ok.ensures.taken asks),
  (λ err err' net spawner. of_words _ _ _ _ _ c.in-Ok.ensures.taken (c.run_alone.ensures.runs err err' net spawner)),
)

pub returns-in-Err : goal.returns-in-Err
returns-in-Err g c = (
  (λ asks. none_is_no_node _ c.in-Err.ensures.refused asks),
  (λ err err' net spawner. refused_words _ _ _ err err' net spawner c.in-Err.ensures.refused),
)
