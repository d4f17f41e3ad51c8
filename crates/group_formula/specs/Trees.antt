-- Formulas as trees, and their truth.
use Rattle.std.specs.Prelude.{ℕ, ◌+◌, ◌≤◌, ◌<◌, nat_le, Bool, not, ◌&&◌, ◌||◌, if◌then◌else◌}
use Rattle.party_set.specs.Parties.{has_party}

-- a formula: a party, both of two formulas, either of them, or at least as many of some as a number says
mutual
  pub data Tree : Type 0 where
    leaf : ℕ → Tree
    both : Tree → Tree → Tree
    either : Tree → Tree → Tree
    at_least : ℕ → Trees → Tree

  pub data Trees : Type 0 where
    one_tree : Tree → Trees
    more_trees : Trees → Tree → Trees

-- how many there are
abbrev pub tree_count : Trees → ℕ
tree_count (one_tree t) = 1
tree_count (more_trees ts t) = tree_count ts + 1

-- the truth of a formula where exactly the parties that pass are true
abbrev mutual
  pub value : (ℕ → Bool) → Tree → Bool
  value g (leaf p) = g p
  value g (both a b) = value g a && value g b
  value g (either a b) = value g a || value g b
  value g (at_least n ts) = nat_le n (true_ones g ts)

  pub true_ones : (ℕ → Bool) → Trees → ℕ
  true_ones g (one_tree t) = if value g t then 1 else 0
  true_ones g (more_trees ts t) = true_ones g ts + (if value g t then 1 else 0)

-- each leaf is one of n parties, and each count is at least 1 and at most the number of its parts
abbrev mutual
  pub IsSoundTree : ℕ → Tree → Type 0
  IsSoundTree n (leaf p) = p < n
  IsSoundTree n (both a b) = IsSoundTree n a × IsSoundTree n b
  IsSoundTree n (either a b) = IsSoundTree n a × IsSoundTree n b
  IsSoundTree n (at_least c ts) = (1 ≤ c) × (c ≤ tree_count ts) × AreSound n ts

  pub AreSound : ℕ → Trees → Type 0
  AreSound n (one_tree t) = IsSoundTree n t
  AreSound n (more_trees ts t) = AreSound n ts × IsSoundTree n t

-- a formula over `parties` parties
pub record Meaning : Type 0 where
  pub parties : ℕ
  pub tree : Tree

-- the formula is false where exactly the members of the group of this mask are true
abbrev pub is_tolerated : Meaning → ℕ → Bool
is_tolerated f mask = not (value (has_party mask) f.tree)
