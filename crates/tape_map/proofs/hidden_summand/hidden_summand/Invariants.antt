use Rattle.std.proofs.Common.{◌≡◌, ℕ, ◌<◌, false}
use Rattle.std.specs.Prelude.{slice_index}
use Rattle.party_set.specs.Parties.{within}
use Rattle.tape_map.proofs.hidden_summand.hidden_summand.Given as goal

-- the group lies in none of the groups so far
abbrev pub invariant-loop-i : goal.invariant-loop-i
invariant-loop-i l = (k : ℕ) → k < l.i → within l.groups.parties l.group.mask (slice_index l.groups.groups k) ≡ false
