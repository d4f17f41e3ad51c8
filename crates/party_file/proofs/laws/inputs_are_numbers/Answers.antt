use Rattle.party_file.proofs.ReadNumbers.{inputs_stand}
use Rattle.party_file.proofs.laws.inputs_are_numbers.Goals as goal

pub returns : goal.returns
returns c = inputs_stand
