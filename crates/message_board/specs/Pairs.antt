-- Pairs of a number and a word, how often a number stands in a list, and totals.
use Rattle.std.specs.Prelude.{◌≡◌, ℕ, ◌+◌, ◌⊎◌, List, [], ◌∷◌, if◌then◌else◌, ◌==◌}

-- the pair (k, w) is in the list
abbrev pub Knows : List (ℕ × ℕ) → ℕ → ℕ → Type 0
Knows [] k w = ⊥
Knows (p ∷ ps) k w = ((p.0 ≡ k) × (p.1 ≡ w)) ⊎ Knows ps k w

-- what one list knows, the other knows
abbrev pub Grows : List (ℕ × ℕ) → List (ℕ × ℕ) → Type 0
Grows xs ys = (k w : ℕ) → Knows xs k w → Knows ys k w

-- the number is in the list
abbrev pub Has : List ℕ → ℕ → Type 0
Has [] i = ⊥
Has (x ∷ xs) i = (x ≡ i) ⊎ Has xs i

-- how often k stands in the list
abbrev pub times : ℕ → List ℕ → ℕ
times k [] = 0
times k (x ∷ xs) = (if x == k then 1 else 0) + times k xs

-- the numbers of the elements, added up
abbrev pub total_over : {X : Type 0} → (X → ℕ) → List X → ℕ
total_over f [] = 0
total_over f (x ∷ xs) = f x + total_over f xs
