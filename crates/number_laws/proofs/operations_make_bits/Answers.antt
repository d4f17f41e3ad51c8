use Rattle.number_laws.proofs.OperationBits.{operate_bits}
use Rattle.number_laws.proofs.operations_make_bits.Goals as goal

pub returns : goal.returns
returns c = operate_bits
