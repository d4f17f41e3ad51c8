use Rattle.std.proofs.Common.{◌≡◌, length}
use Rattle.wire_tables.proofs.carried.CarriedRows.new.Given as goal

-- a list for each session so far
abbrev pub invariant-loop-session : goal.invariant-loop-session
invariant-loop-session l = length l.rows.items ≡ l._session
