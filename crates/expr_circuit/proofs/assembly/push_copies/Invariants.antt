use Rattle.std.proofs.Common.{◌≡◌, ◌++◌, map, take}
use Rattle.expr_circuit.specs.Circuits.{copy}
use Rattle.expr_circuit.proofs.assembly.push_copies.Given as goal

abbrev pub invariant-loop-at : goal.invariant-loop-at
invariant-loop-at l = l.drafted.items ≡ l.fn.drafted.items ++ map copy (take l.at l.wires)
