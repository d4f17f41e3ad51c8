use Rattle.job_walk.specs.JobOf.{GroupsOf}
use Rattle.job_walk.proofs.Steps.{walks_exit, walks_then}
use Rattle.job_walk.proofs.structure.groups_of_formula.Goals as goal

pub returns-in_err-formula-clause-walks : goal.returns-in_err-formula-clause-walks
unfolding GroupsOf
returns-in_err-formula-clause-walks c = walks_exit _ _ _ _ _ _ c.from_residual.ensures.1 c.in_err-formula.ensures.walks

pub returns-clause-walks : goal.returns-clause-walks
unfolding GroupsOf
returns-clause-walks c = walks_then _ _ _ _ _ _ c.in_ok-formula.ensures.walks c.groups_of.ensures.walks
