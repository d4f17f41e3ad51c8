use Rattle.number_laws.proofs.CostLaws.{free_are}
use Rattle.number_laws.proofs.known_bits_are_free.Goals as goal

pub returns : goal.returns
returns c = free_are
