use Rattle.binary_numbers.proofs.Dividing.{only_quotient}
use Rattle.binary_numbers.proofs.a_quotient_is_the_only_one.Goals as goal

pub returns : goal.returns
returns c = only_quotient
