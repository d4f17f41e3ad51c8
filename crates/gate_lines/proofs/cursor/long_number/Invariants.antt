use Rattle.std.proofs.Common.{length, ◌-◌, ◌≤◌, ◌<◌, ◌^◌, drop}
use Rattle.gate_lines.proofs.Digits.{Digits}
use Rattle.gate_lines.proofs.cursor.long_number.Given as goal

abbrev pub invariant-loop-at : goal.invariant-loop-at
invariant-loop-at l = record {
  within : (l.start ≤ l.at) × (l.at ≤ length l.bytes);
  small : l.value < 2 ^ 64;
  read : Digits (drop l.start l.bytes) (drop l.at l.bytes) l.value;
}

abbrev pub decreases-loop-at : goal.decreases-loop-at
decreases-loop-at l = length l.bytes - l.at
