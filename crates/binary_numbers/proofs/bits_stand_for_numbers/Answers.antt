use Rattle.binary_numbers.proofs.Carrying.{number_below, number_append}
use Rattle.binary_numbers.proofs.bits_stand_for_numbers.Goals as goal

pub returns : goal.returns
returns c = record { below = number_below; joined = number_append }
