use Rattle.job_walk.specs.JobOf.{StructureOf}
use Rattle.job_walk.proofs.Steps.{walks_exit, walks_then}
use Rattle.job_walk.proofs.structure.structure_of.Goals as goal

pub returns-in_err-groups-clause-walks : goal.returns-in_err-groups-clause-walks
unfolding StructureOf
returns-in_err-groups-clause-walks c = walks_exit _ _ _ _ _ _ c.from_residual.ensures.1 c.in_err-groups.ensures.walks

pub returns-clause-walks : goal.returns-clause-walks
unfolding StructureOf
returns-clause-walks c = walks_then _ _ _ _ _ _ c.in_ok-groups.ensures.walks c.with_q2.ensures.walks
