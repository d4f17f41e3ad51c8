use Rattle.std.proofs.Common.{◌≡◌, take}
use Rattle.number_compiler.specs.Circuits.{gates_from}
use Rattle.number_compiler.proofs.assembly.gates.Given as goal

abbrev pub invariant-loop-at : goal.invariant-loop-at
invariant-loop-at l = l.gates.items ≡ gates_from l.inputs 0 (take l.at l.drafted)
