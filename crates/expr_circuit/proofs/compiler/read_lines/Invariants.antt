use Rattle.std.proofs.Common.{◌≡◌, ◌+◌, ◌≤◌, ◌^◌, length}
use Rattle.expr_circuit.specs.Circuits.{Draft, no_lines}
use Rattle.expr_circuit.specs.Faults.{lines}
use Rattle.expr_circuit.specs.Walks.{lines_in}
use Rattle.expr_circuit.specs.Keeps.{Keeps}
use Rattle.expr_circuit.proofs.compiler.read_lines.Given as goal

abbrev pub invariant-loop-rest : goal.invariant-loop-rest
invariant-loop-rest l = record {
  made : (d : Draft) × Keeps l.draft d × (lines_in (2 ^ l.ring) no_lines 1 (lines l.fn.bytes) ≡ lines_in (2 ^ l.ring) d l.number (lines l.rest));
  room : l.number + length l.rest ≤ 1 + length l.fn.bytes;
}

abbrev pub decreases-loop-rest : goal.decreases-loop-rest
decreases-loop-rest l = length l.rest
