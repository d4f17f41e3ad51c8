use Rattle.std.proofs.Common.{◌≡◌, ℕ, ◌<◌, ◌≤◌, false, length}
use Rattle.std.specs.Prelude.{slice_index}
use Rattle.party_set.specs.Parties.{covers}
use Rattle.q2_test.proofs.covering_pair.Given as goal

abbrev pub invariant-loop-j : goal.invariant-loop-j
invariant-loop-j l = (b : ℕ) → l.i ≤ b → b < l.j → covers l.groups.parties (slice_index l.groups.groups l.i) (slice_index l.groups.groups b) ≡ false

abbrev pub invariant-loop-i : goal.invariant-loop-i
invariant-loop-i l = (a b : ℕ) → a < l.i → a ≤ b → b < length l.groups.groups → covers l.groups.parties (slice_index l.groups.groups a) (slice_index l.groups.groups b) ≡ false
