use Rattle.std.proofs.Common.{refl}
use Rattle.job_walk.specs.JobOf.{GroupOf}
use Rattle.job_walk.proofs.Steps.{walks_exit, walks_then}
use Rattle.job_walk.proofs.group.some_group.Goals as goal

pub returns-in_err-group-clause-walks : goal.returns-in_err-group-clause-walks
unfolding GroupOf
returns-in_err-group-clause-walks c = walks_exit _ _ _ _ _ _ c.from_residual.ensures.1 c.in_err-group.ensures.walks

pub returns-clause-walks : goal.returns-clause-walks
unfolding GroupOf
returns-clause-walks c = walks_then _ _ _ _ _ _ c.in_ok-group.ensures.walks (record { ok = refl; stop = tt })
