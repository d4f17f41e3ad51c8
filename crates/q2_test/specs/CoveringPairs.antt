-- The first pair of groups that together are all parties.
use Rattle.std.specs.Prelude.{◌≡◌, ℕ, ◌<◌, ◌≤◌, true, false, length, slice_index}
use Rattle.party_set.specs.Parties.{Structure, is_all, covers}

-- the pair i ≤ j is the first, by i and then by j, of groups that together are all parties
pub record IsFirstCovering (s : Structure) (i j : ℕ) : Type 0 where
  pub order : i ≤ j
  pub group : j < length s.groups
  pub covering : covers s.parties (slice_index s.groups i) (slice_index s.groups j) ≡ true
  pub earlier_rows : (a b : ℕ) → a < i → a ≤ b → b < length s.groups
      → covers s.parties (slice_index s.groups a) (slice_index s.groups b) ≡ false
  pub earlier : (b : ℕ) → i ≤ b → b < j → covers s.parties (slice_index s.groups i) (slice_index s.groups b) ≡ false

-- the first group is of all parties
pub record StartsWithAll (s : Structure) : Type 0 where
  pub group : 0 < length s.groups
  pub everyone : is_all s.parties (slice_index s.groups 0) ≡ true
