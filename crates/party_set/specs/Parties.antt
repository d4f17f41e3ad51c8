-- Groups of parties, and the structures that they make.
use Rattle.std.specs.Prelude.{◌≡◌, ◌≢◌, ℕ, zero, suc, ◌^◌, ◌<◌, ◌≤◌, nat_eq, Bool, true, false, not, ◌&&◌, ◌||◌, List, length, slice_index, bit_or}
use Rattle.std.specs.Int.{bit_at}
use Rattle.party_set.specs.declared.limits.TheConstants.{MOST_PARTIES, MOST_GROUPS}

-- party p is in the group of this mask
abbrev pub has_party : ℕ → ℕ → Bool
has_party mask p = nat_eq (bit_at mask p) 1

-- the mask of party p alone
abbrev pub party_mask : ℕ → ℕ
party_mask p = 2 ^ p

-- the mask with party p too
abbrev pub with_party : ℕ → ℕ → ℕ
with_party mask p = bit_or mask (party_mask p)

-- a group, out of `parties` parties
pub record Members : Type 0 where
  pub parties : ℕ
  pub mask : ℕ

-- a list of groups of `parties` parties, as masks
pub record Structure : Type 0 where
  pub parties : ℕ
  pub groups : List ℕ

-- each number below n passes
abbrev pub every_below : ℕ → (ℕ → Bool) → Bool
every_below zero test = true
every_below (suc n) test = every_below n test && test n

-- each of n parties that is in a is in b
abbrev pub within : ℕ → ℕ → ℕ → Bool
within n a b = every_below n (λ p. not (has_party a p) || has_party b p)

-- each of n parties is in a
abbrev pub is_all : ℕ → ℕ → Bool
is_all n a = every_below n (has_party a)

-- c has the parties of a and those of b, and no other
pub record IsUnion (a b c : ℕ) : Type 0 where
  pub members : (p : ℕ) → has_party c p ≡ (has_party a p || has_party b p)

-- p is the least of n parties that is not in a
pub record IsLeastOutside (n a p : ℕ) : Type 0 where
  pub party : p < n
  pub outside : has_party a p ≡ false
  pub least : (q : ℕ) → q < p → has_party a q ≡ true

-- 1 to 12 parties, and 1 to 64 groups of them, by rising mask: none lies within another
pub record IsAntichain (s : Structure) : Type 0 where
  pub some_party : 1 ≤ s.parties
  pub few_parties : s.parties ≤ MOST_PARTIES
  pub some_group : 1 ≤ length s.groups
  pub few_groups : length s.groups ≤ MOST_GROUPS
  pub masks : (i : ℕ) → i < length s.groups → slice_index s.groups i < 2 ^ s.parties
  pub rising : (i j : ℕ) → i < j → j < length s.groups → slice_index s.groups i < slice_index s.groups j
  pub apart : (i j : ℕ) → i < length s.groups → j < length s.groups → i ≢ j
      → within s.parties (slice_index s.groups i) (slice_index s.groups j) ≡ false

-- a and b together are all of n parties
abbrev pub covers : ℕ → ℕ → ℕ → Bool
covers n a b = every_below n (λ p. has_party a p || has_party b p)

-- no two groups together are all parties (the condition Q2 of Hirt and Maurer)
pub record IsQ2 (s : Structure) : Type 0 where
  pub no_cover : (i j : ℕ) → i < length s.groups → j < length s.groups
      → covers s.parties (slice_index s.groups i) (slice_index s.groups j) ≡ false
