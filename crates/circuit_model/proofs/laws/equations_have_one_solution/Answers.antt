use Rattle.circuit_model.proofs.Solutions.{values_solve, values_alone}
use Rattle.circuit_model.proofs.laws.equations_have_one_solution.Goals as goal

pub returns-clause-solve : goal.returns-clause-solve
returns-clause-solve c = values_solve

pub returns-clause-alone : goal.returns-clause-alone
returns-clause-alone c = values_alone
