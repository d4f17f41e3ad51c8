-- What a search for the maximal groups answers.
use Rattle.std.specs.Prelude.{◌≡◌, ◌+◌, ◌<◌, ◌≤◌, length, Result, Ok, Err}
use Rattle.party_set.specs.Parties.{Structure}
use Rattle.maximal_groups.specs.declared.find.GroupsFault.{GroupsFault}
use Rattle.maximal_groups.specs.declared.find.GroupsFault.TheVariants.{TooManyGroups, Memory}
use Rattle.party_set.specs.declared.limits.TheConstants.{MOST_GROUPS}

-- the list, where it has at most 64 groups, and else that it has more
abbrev pub Finds : Structure → Result Structure GroupsFault → Type 0
Finds s (Ok found) = (found ≡ s) × (length s.groups ≤ MOST_GROUPS)
Finds s (Err (TooManyGroups found)) = (found ≡ MOST_GROUPS + 1) × (MOST_GROUPS < length s.groups)
Finds s (Err Memory) = Unit {0}
