use Rattle.expr_circuit.proofs.ValidPrograms.{program_has_its_value}
use Rattle.expr_circuit.proofs.laws.a_compiled_circuit_has_the_value.Goals as goal

pub returns : goal.returns
returns c = program_has_its_value
