use Rattle.std.proofs.Common.{◌≡◌, length}
use Rattle.number_laws.proofs.RunMakes.{run_given}
use Rattle.number_laws.proofs.kept_results_are_as_given.Goals as goal

pub returns : goal.returns
returns c = λ n steps. run_given steps (λ c. length c ≡ n)
