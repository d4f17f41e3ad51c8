use Rattle.std.proofs.Common.{◌≡◌, ◌++◌, map, take}
use Rattle.circuit_file.specs.CircuitTexts.{lines_text, gate_parts}
use Rattle.circuit_file.proofs.writer.push_gates.Given as goal

abbrev pub invariant-loop-at : goal.invariant-loop-at
invariant-loop-at l = l.text.items ≡ l.fn.text.items ++ lines_text (map gate_parts (take l.at l.circuit.gates))
