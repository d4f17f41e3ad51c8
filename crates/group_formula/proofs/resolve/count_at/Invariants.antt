use Rattle.std.proofs.Common.{◌≡◌, take}
use Rattle.group_formula.specs.Formulas.{decimal}
use Rattle.group_formula.proofs.resolve.count_at.Given as goal

abbrev pub invariant-loop-byte : goal.invariant-loop-byte
invariant-loop-byte l = l.number ≡ decimal (take l.byte-index l.digits)
