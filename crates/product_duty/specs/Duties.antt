-- The pairs of summands that each party multiplies (Maurer 2006).
use Rattle.std.specs.Prelude.{◌≡◌, ℕ, ◌+◌, ◌*◌, ◌<◌, ◌&&◌, nat_eq, if◌then◌else◌, List, [], ◌∷◌, length, slice_index, slice_index_or, count_by}
use Rattle.list_laws.specs.Lists.{total, joined, only_if}
use Rattle.secret_sharing.specs.Duties.{duty}
use Rattle.party_set.specs.Parties.{Structure, IsAntichain, IsQ2}
use Rattle.share_layout.specs.Layouts.{holds, IsLeastParty}

-- the pairs (i, 0) to (i, m - 1) at which f gives p
abbrev pub pairs_in_row : (ℕ → ℕ → ℕ) → ℕ → ℕ → ℕ → List (ℕ × ℕ)
pairs_in_row f p i m = joined m (λ j. only_if (nat_eq (f i j) p) ((i, j) ∷ []))

-- the pairs of numbers below m at which f gives p, by the first and then the second
abbrev pub pairs_where : (ℕ → ℕ → ℕ) → ℕ → ℕ → List (ℕ × ℕ)
pairs_where f p m = joined m (λ i. pairs_in_row f p i m)

-- the pairs of summands that are party p's duty
abbrev pub pairs_of : Structure → ℕ → List (ℕ × ℕ)
pairs_of s p = pairs_where (duty s) p (length s.groups)

-- how often a pair stands in a list
abbrev pub times : List (ℕ × ℕ) → ℕ → ℕ → ℕ
times pairs i j = count_by (λ (pair : ℕ × ℕ). nat_eq pair.0 i && nat_eq pair.1 j) pairs

-- the law: the pair (i, j) is the duty of the least party that holds both summands, stands once in that party's list
-- and in no other, and so once in all
pub record IsDuty (s : Structure) (i j : ℕ) : Type 0 where
  pub holder : IsLeastParty s (λ p. holds s p i && holds s p j) (duty s i j)
  pub lists : (p : ℕ) → times (pairs_of s p) i j ≡ (if nat_eq (duty s i j) p then 1 else 0)
  pub once : total s.parties (λ p. times (pairs_of s p) i j) ≡ 1

-- the law, of every pair
abbrev pub EachIsDuty : Structure → Type 0
EachIsDuty s = (i j : ℕ) → i < length s.groups → j < length s.groups → IsDuty s i j

-- what a `Duty` keeps beside the groups: the duty of each pair, row by row, and the list of each party
pub record IsTable (s : Structure) (table : List ℕ) (party_lists : List (List (ℕ × ℕ))) : Type 0 where
  pub antichain : IsAntichain s
  pub q2 : IsQ2 s
  pub size : length table ≡ length s.groups * length s.groups
  pub duties : (i j : ℕ) → i < length s.groups → j < length s.groups
      → slice_index table (i * length s.groups + j) ≡ duty s i j
  pub count : length party_lists ≡ s.parties
  pub lists : (p : ℕ) → p < s.parties → slice_index_or party_lists p [] ≡ pairs_of s p
