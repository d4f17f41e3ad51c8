use Rattle.walk_laws.proofs.RunNumbers.{runs_write_numbers}
use Rattle.walk_laws.proofs.laws.a_run_writes_the_value_of_numbers.Goals as goal

pub returns : goal.returns
returns c = runs_write_numbers
