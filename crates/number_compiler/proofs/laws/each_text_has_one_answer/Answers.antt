use Rattle.number_circuit.proofs.OneAnswer.{one_answer}
use Rattle.number_compiler.specs.Circuits.{has_large_circuit}
use Rattle.number_compiler.proofs.laws.each_text_has_one_answer.Goals as goal

pub returns : goal.returns
returns c = one_answer has_large_circuit
