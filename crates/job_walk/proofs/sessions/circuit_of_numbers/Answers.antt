use Rattle.job_walk.specs.JobOf.{CircuitOf}
use Rattle.job_walk.proofs.Steps.{walks_exit, walks_then}
use Rattle.job_walk.proofs.sessions.circuit_of_numbers.Goals as goal

pub returns-in_err-check_ring : goal.returns-in_err-check_ring
unfolding CircuitOf
returns-in_err-check_ring c = walks_exit _ _ _ _ _ _ c.from_residual.ensures.1 c.in_err-check_ring.ensures

pub returns : goal.returns
unfolding CircuitOf
returns c = walks_then _ _ _ _ _ _ c.in_ok-check_ring.ensures c.circuit_of_program.ensures
