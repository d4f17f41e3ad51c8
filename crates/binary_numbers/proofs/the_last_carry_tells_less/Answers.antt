use Rattle.binary_numbers.proofs.Carrying.{less_carry}
use Rattle.binary_numbers.proofs.the_last_carry_tells_less.Goals as goal

pub returns : goal.returns
returns c = less_carry
