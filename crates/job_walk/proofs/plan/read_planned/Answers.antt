use Rattle.std.proofs.Common.{[], refl}
use Rattle.job_walk.specs.JobOf.{PlanAt}
use Rattle.job_walk.specs.JobReads.{plan_asking}
use Rattle.job_walk.proofs.JobFiles.{no_job, job_stopped, job_given}
use Rattle.job_walk.proofs.Steps.{reads_exit, reads_seen, stop_seen}
use Rattle.job_walk.proofs.plan.read_planned.Goals as goal

pub returns-in_err-job-clause-reads : goal.returns-in_err-job-clause-reads
unfolding PlanAt
returns-in_err-job-clause-reads g c = no_job (plan_asking c.args.dir.now) _ _ _ _ _ _ _ c.from_residual.ensures.1 (reads_exit _ _ _ _ [] _ _ _ _ c.from_residual.ensures.1 c.in_err-job.ensures.reads)

pub returns-in_err-rest-clause-reads : goal.returns-in_err-rest-clause-reads
returns-in_err-rest-clause-reads g c =
    job_stopped (plan_asking c.args.dir.now) _ _ _ _ _ _ c.in_ok-job.ensures.told _ _ c.from_residual-in_err-rest.ensures.1
    (stop_seen _ _ _ _ _ _ _ c.from_residual-in_err-rest.ensures.1 (c.in_err-rest.ensures.reads _ c.in_ok-job.ensures.reads))

pub returns-clause-reads : goal.returns-clause-reads
returns-clause-reads g c = job_given (plan_asking c.args.dir.now) _ _ _ _ _ _ c.in_ok-job.ensures.told _ refl (reads_seen _ _ _ _ _ c.in_ok-rest.rest _ refl (c.in_ok-rest.ensures.reads _ c.in_ok-job.ensures.reads))
