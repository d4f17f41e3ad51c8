-- The greatest of some numbers.
use Rattle.std.proofs.Common.{ℕ, zero, suc, ◌<◌, ◌≤◌, ap, arith, inl, inr}
use Rattle.std.proofs.Math.Nat.{le-max_left, le-max_right}
use Rattle.std.proofs.lemmas.Bool.{cases_eq}
use Rattle.list_laws.specs.Lists.{greatest}

pub greatest_at : (n : ℕ) (f : ℕ → ℕ) (i : ℕ) → i < n → f i ≤ greatest n f
greatest_at zero f i l = absurd (omega (arith, l))
greatest_at (suc n) f i l = elim (cases_eq i n) [
  | inl same ↦ let e = ap f same in let right = le-max_right (greatest n f) (f n) in omega (arith, e, right)
  | inr ne ↦ let less = greatest_at n f i (omega (arith, l, ne)) in let left = le-max_left (greatest n f) (f n) in omega (arith, less, left)
]

pub greatest_most : (n : ℕ) (f : ℕ → ℕ) (b : ℕ) → ((i : ℕ) → i < n → f i ≤ b) → greatest n f ≤ b
greatest_most zero f b h = omega arith
greatest_most (suc n) f b h = (let rest = greatest_most n f b (λ i l. h i (omega (arith, l))) in let last = h n (omega arith) in omega (arith, rest, last))
