use Rattle.std.proofs.Common.{length, ◌-◌, ◌≡◌, ◌≤◌, ℕ, drop}
use Rattle.gate_lines.specs.Places.{place_in}
use Rattle.gate_lines.proofs.cursor.blanks_end.Given as goal

abbrev pub invariant-loop-at : goal.invariant-loop-at
invariant-loop-at l = record {
  within : (l.fn.at ≤ l.at) × (l.at ≤ length l.bytes);
  same : (n : ℕ) → place_in n (drop l.at l.bytes) ≡ place_in n (drop l.fn.at l.bytes);
}

abbrev pub decreases-loop-at : goal.decreases-loop-at
decreases-loop-at l = length l.bytes - l.at
