use Rattle.std.proofs.Common.{◌≡◌}
use Rattle.number_laws.specs.Values.{number_on, IsMade}
use Rattle.number_laws.proofs.RunMakes.{kept_value}
use Rattle.number_laws.proofs.kept_gates_make_the_number.Goals as goal

pub returns : goal.returns
returns c = λ on steps n. kept_value (IsMade on) steps (λ c. number_on on c ≡ n)
