use Rattle.std.proofs.Common.{length, ◌-◌, ◌+◌, ◌^◌, ◌<◌, ◌≡◌, drop}
use Rattle.gate_lines.specs.Places.{place_in, rows_at, StandsAt}
use Rattle.gate_lines.proofs.cursor.first_token.Given as goal

abbrev pub invariant-loop-at : goal.invariant-loop-at
invariant-loop-at l = record {
  stands : StandsAt l.bytes l.at;
  room : l.number + (length l.bytes - l.at) < 2 ^ 64;
  rows : rows_at (place_in l.number (drop l.at l.bytes)) ≡ rows_at (place_in l.fn.number l.bytes);
}

abbrev pub decreases-loop-at : goal.decreases-loop-at
decreases-loop-at l = length l.bytes - l.at
