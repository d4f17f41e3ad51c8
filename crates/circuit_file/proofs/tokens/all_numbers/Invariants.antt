use Rattle.std.proofs.Common.{◌≡◌, ◌-◌, take}
use Rattle.circuit_file.specs.Tokens.{all_numbers}
use Rattle.circuit_file.proofs.tokens.all_numbers.Given as goal

abbrev pub invariant-loop-at : goal.invariant-loop-at
invariant-loop-at l = record {
  walks : (goal.iterator-loop-at).can_next l.tokens × (goal.iterator-loop-at).is_finite l.tokens;
  left : all_numbers (take l.count l.fn.tokens) ≡ all_numbers (take (l.count - l.at) l.tokens);
}
