use Rattle.std.proofs.Common.{◌+◌, ◌≤◌, length}
use Rattle.number_compiler.specs.Circuits.{Draft}
use Rattle.number_compiler.specs.Keeps.{Keeps}
use Rattle.number_compiler.specs.Progress.{IsReadTo}
use Rattle.number_compiler.proofs.compiler.read_lines.Given as goal

abbrev pub invariant-loop-rest : goal.invariant-loop-rest
invariant-loop-rest l = record {
  made : (d : Draft) × Keeps l.draft d × IsReadTo l.fn.bytes l.number l.rest d l.draft.gates;
  room : l.number + length l.rest ≤ 1 + length l.fn.bytes;
}

abbrev pub decreases-loop-rest : goal.decreases-loop-rest
decreases-loop-rest l = length l.rest
