-- What stands in a list with one element more.
use Rattle.std.proofs.Common.{◌≡◌, ℕ, zero, suc, List, [], ◌∷◌, ◌++◌, length, inl, inr, refl, ap}
use Rattle.std.specs.Prelude.{Some, ◌⊎◌, slice_get}

pub got_push : {A : Type 0} (xs : List A) (y h : A) (k : ℕ) → slice_get (xs ++ y ∷ []) k ≡ Some h → (slice_get xs k ≡ Some h) ⊎ ((k ≡ length xs) × (y ≡ h))
got_push [] y h zero e = let same : y ≡ h = cc in inr (refl, same)
got_push [] y h (suc k) e = cc
got_push (x ∷ xs) y h zero e = inl e
got_push (x ∷ xs) y h (suc k) e = elim (got_push xs y h k e) [
  | inl is ↦ inl is
  | inr last ↦ inr (ap suc last.0, last.1)
]
