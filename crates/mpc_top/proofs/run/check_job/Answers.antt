use Rattle.std.proofs.Common.{refl}
use Rattle.command_words.specs.Commands.{check}
use Rattle.output_text.specs.CheckText.{check_text}
use Rattle.job_walk.proofs.JobFiles.{of_job}
use Rattle.mpc_top.proofs.Runs.{as_text, runs_stop, runs_written, runs_cut, check_stops, check_read}
use Rattle.mpc_top.proofs.run.check_job.Goals as goal

pub returns-in_err-planned : goal.returns-in_err-planned
returns-in_err-planned g c =
    let r = c.in_err-planned.ensures.reads in
    runs_stop (check c.args.dir.now) _ _ _ _ as_text _ _ c.from_residual.ensures.1 refl refl (r.job, r.is_told, r.reads.asks) (λ name last. last) (check_stops c.args.dir.now _ _ _ r.reads)

pub returns-in_err-written : goal.returns-in_err-written
returns-in_err-written g c =
    let planned = c.in_ok-planned.planned in
    let p = of_job _ _ _ _ _ _ _ c.in_ok-planned.ensures.reads in
    runs_cut (check c.args.dir.now) _ _ _ _ (check_text planned.names planned.plan) _ _ c.from_residual-in_err-written.ensures.1 refl (p.0, p.1, p.3.asks_all) (check_read c.args.dir.now _ _ planned p.3) c.in_err-written.ensures

pub returns : goal.returns
returns g c =
    let planned = c.in_ok-planned.planned in
    let p = of_job _ _ _ _ _ _ _ c.in_ok-planned.ensures.reads in
    runs_written (check c.args.dir.now) _ _ _ _ (check_text planned.names planned.plan) _ refl (p.0, p.1, p.3.asks_all) (check_read c.args.dir.now _ _ planned p.3) c.in_ok-written.ensures tt
