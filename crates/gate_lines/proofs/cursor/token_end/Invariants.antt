use Rattle.std.proofs.Common.{length, ◌-◌, ◌≡◌, ◌≤◌, true, not, take, drop}
use Rattle.std.specs.List.{list_all}
use Rattle.text_tokens.specs.Tokens.{is_blank}
use Rattle.gate_lines.proofs.cursor.token_end.Given as goal

abbrev pub invariant-loop-at : goal.invariant-loop-at
invariant-loop-at l = record {
  within : (l.fn.at ≤ l.at) × (l.at ≤ length l.bytes);
  whole : list_all (λ c. not (is_blank c)) (take (l.at - l.fn.at) (drop l.fn.at l.bytes)) ≡ true;
}

abbrev pub decreases-loop-at : goal.decreases-loop-at
decreases-loop-at l = length l.bytes - l.at
