use Rattle.std.proofs.Common.{◌≡◌, drop}
use Rattle.circuit_file.proofs.tokens.after.Given as goal

abbrev pub invariant-loop-at : goal.invariant-loop-at
invariant-loop-at l = record {
  walks : (goal.iterator-loop-at).can_next l.tokens × (goal.iterator-loop-at).is_finite l.tokens;
  rest : l.tokens ≡ drop l.at l.fn.tokens;
}
