use Rattle.number_laws.proofs.Costs32.{costs_32}
use Rattle.number_laws.proofs.gates_of_32_bits.Goals as goal

pub returns : goal.returns
returns c = costs_32
