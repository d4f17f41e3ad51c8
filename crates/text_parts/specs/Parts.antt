-- Texts of words and of groups.
use Rattle.std.specs.Prelude.{ℕ, ◌^◌, ◌%◌, nat_eq, not, if◌then◌else◌, List, [], ◌++◌, length, slice_index, slice_index_or, codes, decimal}
use Rattle.list_laws.specs.Lists.{joined, only_if}
use Rattle.party_set.specs.Parties.{has_party}

-- words, each after a space
abbrev pub words_text : List ℕ → List ℕ
words_text words = joined (length words) (λ i. codes " " ++ decimal (slice_index words i))

-- a party's name, if it is in the group; after a `+` where a lower party is in it
abbrev pub member_text : List (List ℕ) → ℕ → ℕ → List ℕ
member_text names mask p =
    only_if (has_party mask p) (only_if (not (nat_eq (mask % 2 ^ p) 0)) (codes "+") ++ slice_index_or names p [])

-- the names of the group's members, in order and joined by `+`, or `0` for the empty group
abbrev pub group_text : List (List ℕ) → ℕ → List ℕ
group_text names mask = if nat_eq mask 0 then codes "0" else joined (length names) (member_text names mask)
