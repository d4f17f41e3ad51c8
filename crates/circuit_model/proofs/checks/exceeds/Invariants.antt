use Rattle.std.proofs.Common.{◌≡◌, drop, nat_lt, sum}
use Rattle.circuit_model.proofs.checks.exceeds.Given as goal

abbrev pub invariant-loop-width : goal.invariant-loop-width
invariant-loop-width l = nat_lt l.wires (sum l.widths) ≡ nat_lt l.left (sum (drop l.width-index l.widths))
