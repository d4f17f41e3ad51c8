use Rattle.std.proofs.Common.{[], refl}
use Rattle.command_words.specs.Commands.{run}
use Rattle.job_walk.specs.Seen.{text_view}
use Rattle.mpc_top.proofs.FilesRead.{plan_first}
use Rattle.mpc_top.proofs.Runs.{as_text, runs_stop, run_stops}
use Rattle.mpc_top.proofs.run.run_job.Goals as goal

pub returns-in_err-planned : goal.returns-in_err-planned
returns-in_err-planned g c =
    let view = text_view c.args.view in
    let r = c.in_err-planned.ensures.reads in
    runs_stop (run c.args.dir.now c.args.workers view) _ _ _ _ as_text _ _ c.from_residual.ensures.1 refl refl (plan_first c.args.dir.now [] _ _ view _ r) (λ name last. last)
    (run_stops c.args.dir.now _ _ c.args.workers view _ r.reads)

pub returns : goal.returns
returns g c = c.run_planned-result.ensures (text_view c.args.view) _ c.in_ok-planned.ensures.reads
