-- Families of tolerated groups, and their maximal groups.
use Rattle.std.specs.Prelude.{◌≡◌, ℕ, ◌^◌, ◌<◌, nat_eq, Bool, true, not, ◌&&◌, ◌||◌, ◌↔◌, List, All, filter, length, slice_index}
use Rattle.std.specs.List.{list_any, range_with_len}
use Rattle.party_set.specs.Parties.{Structure, every_below, within}

-- of n parties: a part of a tolerated group is tolerated
abbrev pub IsClosed : ℕ → (ℕ → Bool) → Type 0
IsClosed n tolerated = (a b : ℕ) → a < 2 ^ n → b < 2 ^ n → within n a b ≡ true → tolerated b ≡ true → tolerated a ≡ true

-- what a family of n parties keeps: it is closed, and the empty group is tolerated
pub record IsFamily (n : ℕ) (tolerated : ℕ → Bool) : Type 0 where
  pub parts : IsClosed n tolerated
  pub nobody : tolerated 0 ≡ true

-- a is empty, or lies within one of these groups
abbrev pub is_tolerated_by : ℕ → List ℕ → ℕ → Bool
is_tolerated_by n groups a = nat_eq a 0 || list_any (within n a) groups

-- each of these groups is tolerated by the list
abbrev pub IsCoveredBy : ℕ → List ℕ → List ℕ → Type 0
IsCoveredBy n groups listed = All (λ a. is_tolerated_by n listed a ≡ true) groups

-- b has each party of a, and one more
abbrev pub is_larger : ℕ → ℕ → ℕ → Bool
is_larger n a b = within n a b && not (within n b a)

-- a is tolerated, and no strictly larger group is
abbrev pub is_maximal : ℕ → (ℕ → Bool) → ℕ → Bool
is_maximal n tolerated a = tolerated a && every_below (2 ^ n) (λ b. not (is_larger n a b) || not (tolerated b))

-- the maximal tolerated groups of n parties, by rising mask
abbrev pub maximal_structure : ℕ → (ℕ → Bool) → Structure
maximal_structure n tolerated =
    record { parties = n; groups = filter (is_maximal n tolerated) (range_with_len 0 (2 ^ n)) }

-- the maximal groups of the family that a list tells
abbrev pub listed_structure : ℕ → List ℕ → Structure
listed_structure n groups = maximal_structure n (is_tolerated_by n groups)

-- a lies within a listed group
abbrev pub LiesWithin : Structure → ℕ → Type 0
LiesWithin s a = (i : ℕ) × (i < length s.groups) × (within s.parties a (slice_index s.groups i) ≡ true)

-- the maximal groups tell which groups are tolerated
abbrev pub TellsTolerated : ℕ → (ℕ → Bool) → Type 0
TellsTolerated n tolerated = (a : ℕ) → a < 2 ^ n → (tolerated a ≡ true) ↔ LiesWithin (maximal_structure n tolerated) a
