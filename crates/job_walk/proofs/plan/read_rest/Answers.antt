use Rattle.job_walk.specs.JobOf.{PlanAt, PlannedOf}
use Rattle.job_walk.specs.Seen.{planned_with}
use Rattle.std.proofs.Common.{[], ap, ◌∙◌}
use Rattle.job_walk.proofs.Steps.{reads_memory, reads_exit, reads_leave, reads_then, reads_walk, reads_equal, reads_on}
use Rattle.job_walk.proofs.Equal.{numeric_same}
use Rattle.job_walk.proofs.plan.read_rest.Goals as goal

pub returns-in_err-numeric-clause-reads : goal.returns-in_err-numeric-clause-reads
unfolding PlanAt
returns-in_err-numeric-clause-reads g c = λ before read. reads_then _ _ _ _ _ _ _ _ _ read (reads_memory _ _ _ _ c.from_residual.ensures.1)

pub returns-in_err-group-clause-reads : goal.returns-in_err-group-clause-reads
unfolding PlanAt
returns-in_err-group-clause-reads g c = λ before read.
    reads_then _ _ _ _ _ _ _ _ _ read (reads_exit _ _ _ _ _ _ _ _ _ c.from_residual-in_err-group.ensures.1 (reads_walk _ _ _ _ c.in_err-group.ensures.walks))

pub returns-in_err-groups-clause-reads : goal.returns-in_err-groups-clause-reads
unfolding PlanAt
returns-in_err-groups-clause-reads g c = λ before read.
    reads_then _ _ _ _ _ _ _ _ _ read (reads_then _ _ _ _ _ _ _ _ _ (reads_walk _ _ _ _ c.in_ok-group.ensures.walks)
    (reads_exit _ _ _ _ _ _ _ _ _ c.from_residual-in_err-groups.ensures.1 (reads_walk _ _ _ _ c.in_err-groups.ensures.walks)))

pub returns-in_err-parts-clause-reads : goal.returns-in_err-parts-clause-reads
unfolding PlanAt PlannedOf
returns-in_err-parts-clause-reads g c = λ before read.
    reads_then _ _ _ _ _ _ _ _ _ read (reads_then _ _ _ _ _ _ _ _ _ (reads_walk _ _ _ _ c.in_ok-group.ensures.walks)
    (reads_then _ _ _ _ _ _ _ _ _ (reads_walk _ _ _ _ c.in_ok-groups.ensures.walks)
    (reads_leave _ _ _ _ _ _ _ _ c.from_residual-in_err-parts.ensures.1 c.in_err-parts.ensures.reads)))

pub returns-in_err-plan-clause-reads : goal.returns-in_err-plan-clause-reads
unfolding PlanAt PlannedOf
returns-in_err-plan-clause-reads g c = λ before read.
    reads_then _ _ _ _ _ _ _ _ _ read (reads_then _ _ _ _ _ _ _ _ _ (reads_walk _ _ _ _ c.in_ok-group.ensures.walks)
    (reads_then _ _ _ _ _ _ _ _ _ (reads_walk _ _ _ _ c.in_ok-groups.ensures.walks)
    (reads_on _ _ _ _ _ _ _ _ _ c.in_ok-parts.ensures.reads (reads_exit _ _ _ _ [] _ _ _ _ c.from_residual-in_err-plan.ensures.1 (reads_walk _ _ _ _ c.in_err-plan.ensures.walks)))))

pub returns-clause-reads : goal.returns-clause-reads
unfolding PlanAt PlannedOf
returns-clause-reads g c = λ before read.
    reads_then _ _ _ _ _ _ _ _ _ read (reads_then _ _ _ _ _ _ _ _ _ (reads_walk _ _ _ _ c.in_ok-group.ensures.walks)
    (reads_then _ _ _ _ _ _ _ _ _ (reads_walk _ _ _ _ c.in_ok-groups.ensures.walks)
    (reads_on _ _ _ _ _ _ _ _ _ c.in_ok-parts.ensures.reads (reads_then _ _ _ _ _ _ _ _ _ (reads_walk _ _ _ _ c.in_ok-plan.ensures.walks)
    (reads_equal (planned_with c.args.job.now) _ _ _ (ap (λ ns. record { names = c.args.job.now.names; group = c.in_ok-group.group; plan = c.in_ok-plan.plan; numeric = ns })
    (c.in_ok-numeric.ensures ∙ numeric_same c.args.job.now.sessions.items)))))))
