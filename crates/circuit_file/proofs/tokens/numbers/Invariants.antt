use Rattle.std.proofs.Common.{◌≡◌, ◌-◌, ◌++◌, take}
use Rattle.circuit_file.specs.Tokens.{numbers_in}
use Rattle.circuit_file.proofs.tokens.numbers.Given as goal

abbrev pub invariant-loop-at : goal.invariant-loop-at
invariant-loop-at l = record {
  walks : (goal.iterator-loop-at).can_next l.tokens × (goal.iterator-loop-at).is_finite l.tokens;
  left : l.found.items ++ numbers_in (take (l.count - l.at) l.tokens) ≡ numbers_in (take l.count l.fn.tokens);
}
