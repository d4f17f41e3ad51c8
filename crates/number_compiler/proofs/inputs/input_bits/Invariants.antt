use Rattle.std.proofs.Common.{◌≡◌, ◌++◌, ◌-◌}
use Rattle.number_compiler.specs.Circuits.{input_bits}
use Rattle.number_compiler.proofs.inputs.input_bits.Given as goal

abbrev pub invariant-loop-wire : goal.invariant-loop-wire
invariant-loop-wire l = input_bits l.fn.first (l.fn.end - l.fn.first) ≡ l.bits.items ++ input_bits l.wire (l.fn.end - l.wire)
