use Rattle.std.proofs.Common.{◌≡◌, ◌++◌, map, take}
use Rattle.number_compiler.specs.Circuits.{copy}
use Rattle.number_compiler.proofs.assembly.all_gates.Given as goal

abbrev pub invariant-loop-at : goal.invariant-loop-at
invariant-loop-at l = l.all.items ≡ l.drafted ++ map copy (take l.at l.bits)
