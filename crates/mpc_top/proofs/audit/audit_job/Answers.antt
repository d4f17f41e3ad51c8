use Rattle.std.proofs.Common.{[], ◌∷◌, refl}
use Rattle.command_words.specs.Commands.{audit}
use Rattle.job_walk.specs.Names.{view_file}
use Rattle.mpc_top.proofs.FilesRead.{plan_first}
use Rattle.mpc_top.proofs.Runs.{as_text, runs_stop}
use Rattle.mpc_top.proofs.Audits.{plan_stops}
use Rattle.mpc_top.proofs.audit.audit_job.Goals as goal

pub returns-in_err-planned : goal.returns-in_err-planned
returns-in_err-planned g c =
    let r = c.in_err-planned.ensures.reads in
    runs_stop (audit c.args.dir.now) _ _ _ _ as_text _ _ c.from_residual.ensures.1 refl refl (plan_first c.args.dir.now (view_file ∷ []) _ _ _ _ r) (λ name last. last)
    (plan_stops c.args.dir.now _ _ _ r.reads)

pub returns : goal.returns
returns g c = c.audit_planned-result.ensures _ c.in_ok-planned.ensures.reads
