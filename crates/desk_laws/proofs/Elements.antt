-- What holds of each element of a list, by its number.
use Rattle.std.proofs.Common.{◌≡◌, ℕ, zero, suc, ◌<◌, List, [], ◌∷◌, length, get_or, sym, subst, arith}
use Rattle.std.specs.Prelude.{Some, slice_get}
use Rattle.std.proofs.lemmas.Option.{slice_get_cases}
use mathlib.Core.Logic.{inl, inr}

-- a place of a list has its element
pub element_there : {A : Type 0} (xs : List A) (k : ℕ) → k < length xs → (x : A) × (slice_get xs k ≡ Some x) × (get_or xs k x ≡ x)
element_there xs k l = elim (slice_get_cases xs k).1 [
  | inl found ↦ (found.0, found.2, found.3)
  | inr past ↦ absurd (let a = past.0 in omega arith)
]

-- an element stands at a place of its list, whatever the default
pub stands_at : {A : Type 0} (xs : List A) (k : ℕ) (x d : A) → slice_get xs k ≡ Some x → (k < length xs) × (get_or xs k d ≡ x)
stands_at [] k x d e = absurd (cc)
stands_at (y ∷ xs) zero x d e = (omega arith, (let same : y ≡ x = cc in same))
stands_at (y ∷ xs) (suc k) x d e = let r = stands_at xs k x d e in (omega (arith, r.0), r.1)

-- from elements to places, and back
pub by_place : {A : Type 0} (P : ℕ → A → Type 0) (xs : List A) → ((k : ℕ) (x : A) → slice_get xs k ≡ Some x → P k x) → (k : ℕ) (d : A) → k < length xs → P k (get_or xs k d)
by_place P xs h k d l = let here = element_there xs k l in subst (P k) (sym (stands_at xs k here.0 d here.1).1) (h k here.0 here.1)

pub by_element : {A : Type 0} (P : ℕ → A → Type 0) (xs : List A) → ((k : ℕ) (d : A) → k < length xs → P k (get_or xs k d)) → (k : ℕ) (x : A) → slice_get xs k ≡ Some x → P k x
by_element P xs h k x e = let here = stands_at xs k x x e in subst (P k) here.1 (h k x here.0)
