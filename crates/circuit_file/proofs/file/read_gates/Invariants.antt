use Rattle.std.proofs.Common.{◌≡◌, ◌+◌, ◌-◌, length, None}
use Rattle.circuit_file.specs.CircuitFiles.{gates_in}
use Rattle.circuit_file.proofs.file.read_gates.Given as goal

abbrev pub invariant-loop-at : goal.invariant-loop-at
invariant-loop-at l = record {
  left : gates_in l.layout (l.gates - l.at) (l.at + 3) l.builder.circuit l.lines ≡ gates_in l.layout l.gates 3 l.fn.builder.circuit l.fn.lines;
  done : length l.builder.circuit.gates ≡ l.at;
  announced : l.builder.announced ≡ l.gates;
  going : l.builder.refused ≡ None;
}
