use Rattle.std.proofs.Common.{◌≡◌, ◌+◌, ◌-◌, ◌≤◌, true, length, take, drop}
use Rattle.std.specs.Char.{is_ascii_digit}
use Rattle.std.specs.List.{list_all}
use Rattle.std.specs.Str.Parse.{digits_value}
use Rattle.gate_lines.proofs.cursor.first_digits.Given as goal

abbrev pub invariant-loop-at : goal.invariant-loop-at
invariant-loop-at l = record {
  within : (l.start ≤ l.at) × (l.at ≤ length l.bytes) × (l.at ≤ l.start + 19);
  all : list_all is_ascii_digit (take (l.at - l.start) (drop l.start l.bytes)) ≡ true;
  value : l.value ≡ digits_value 10 (take (l.at - l.start) (drop l.start l.bytes));
}

abbrev pub decreases-loop-at : goal.decreases-loop-at
decreases-loop-at l = length l.bytes - l.at
