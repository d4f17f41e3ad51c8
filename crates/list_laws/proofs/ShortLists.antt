-- Lists of one element, and of two.
use Rattle.std.proofs.Common.{◌≡◌, ℕ, List, [], ◌∷◌, length, refl, arith}
use Rattle.std.specs.Prelude.{slice_index}

pub one_long : (xs : List ℕ) → length xs ≡ 1 → xs ≡ slice_index xs 0 ∷ []
one_long [] e = absurd (omega arith)
one_long (x ∷ []) e = refl
one_long (x ∷ y ∷ xs) e = absurd (omega arith)

pub two_long : (xs : List ℕ) → length xs ≡ 2 → xs ≡ slice_index xs 0 ∷ slice_index xs 1 ∷ []
two_long [] e = absurd (omega arith)
two_long (x ∷ []) e = absurd (omega arith)
two_long (x ∷ y ∷ []) e = refl
two_long (x ∷ y ∷ z ∷ xs) e = absurd (omega arith)
