-- Differences in a ring of remainders.
use Rattle.std.specs.Prelude.{◌≡◌, ℕ, ◌+◌, ◌-◌, ◌%◌}

-- a - b modulo q
abbrev pub difference : ℕ → ℕ → ℕ → ℕ
difference q a b = (a + (q - b % q)) % q

-- the difference a - b and b add up to a
abbrev pub DifferenceUndoes : ℕ → ℕ → ℕ → Type 0
DifferenceUndoes q a b = (difference q a b + b) % q ≡ a
