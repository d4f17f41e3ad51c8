use Rattle.std.proofs.Common.{◌≡◌, length, take}
use Rattle.circuit_file.specs.Tokens.{tokens_after, numbers_in}
use Rattle.circuit_file.proofs.gate_line.read_wires.Given as goal

abbrev pub invariant-loop-at : goal.invariant-loop-at
invariant-loop-at l = record {
  read : take l.at l.wires ≡ numbers_in (tokens_after 2 l.at l.row);
  three : length l.wires ≡ 3;
}
