use Rattle.std.proofs.Common.{◌≡◌, ℕ, ◌<◌, false}
use Rattle.party_set.specs.Parties.{has_party}
use Rattle.maximal_groups.proofs.Largest.{joined}
use Rattle.maximal_groups.proofs.find.is_maximal.Given as goal

abbrev pub invariant-loop-p : goal.invariant-loop-p
invariant-loop-p g l = (p : ℕ) → p < l.p → has_party l.group.mask p ≡ false → g.F.Family.is_tolerated l.family (joined l.group.mask p) ≡ false
