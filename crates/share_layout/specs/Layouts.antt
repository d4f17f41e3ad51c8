-- Replicated sharing: a value is a sum of one summand for each maximal group, and each summand goes to every party
-- outside its group (Ito, Saito, Nishizeki 1987).
use Rattle.std.specs.Prelude.{◌≡◌, ℕ, ◌<◌, Bool, true, false, not, List, length, slice_index}
use Rattle.std.specs.List.{position_or_len, range_with_len}
use Rattle.party_set.specs.Parties.{has_party, Structure, IsAntichain, IsQ2}

-- party p holds summand i: it is outside group i
abbrev pub holds : Structure → ℕ → ℕ → Bool
holds s p i = not (has_party (slice_index s.groups i) p)

-- the least party that passes, and where there is none the number of parties
abbrev pub least_party : Structure → (ℕ → Bool) → ℕ
least_party s test = position_or_len test (range_with_len 0 s.parties)

-- the least party that holds summand i
abbrev pub least_holder : Structure → ℕ → ℕ
least_holder s i = least_party s (λ p. holds s p i)

-- p is the least of the parties that passes
pub record IsLeastParty (s : Structure) (test : ℕ → Bool) (p : ℕ) : Type 0 where
  pub party : p < s.parties
  pub passes : test p ≡ true
  pub least : (q : ℕ) → q < p → test q ≡ false

-- the law: each summand has a holder, since no two groups are all parties together, a group with itself neither
abbrev pub EachIsHeld : Structure → Type 0
EachIsHeld s = (i : ℕ) → i < length s.groups → IsLeastParty s (λ p. holds s p i) (least_holder s i)

-- what a layout keeps: beside the groups, the least holder of each summand
pub record IsLayout (s : Structure) (least : List ℕ) : Type 0 where
  pub antichain : IsAntichain s
  pub q2 : IsQ2 s
  pub count : length least ≡ length s.groups
  pub holders : (i : ℕ) → i < length s.groups → slice_index least i ≡ least_holder s i
