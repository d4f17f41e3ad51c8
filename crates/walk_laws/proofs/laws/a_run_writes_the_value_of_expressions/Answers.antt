use Rattle.walk_laws.proofs.RunValues.{runs_write_values}
use Rattle.walk_laws.proofs.laws.a_run_writes_the_value_of_expressions.Goals as goal

pub returns : goal.returns
returns c = runs_write_values
