-- Where a mask stands among rising ones, and what it is to add one.
use Rattle.std.proofs.Common.{◌≡◌, ℕ, zero, suc, ◌+◌, ◌-◌, ◌<◌, ◌≤◌, ◌⊎◌, [], ◌∷◌, ◌++◌, List, length, get_or, subst, ap, inl, inr, arith}
use Rattle.std.specs.Prelude.{Result, Ok, Err}
use Rattle.std.specs.List.{Contains, insert}
use Rattle.std.specs.List.Sorted.{IsBinarySearchResult, IsStrictlyIncreasing}
use Rattle.std.specs.Ordering.{nat_cmp}
use Rattle.std.specs.Result.{MatchResult}
use Rattle.std.proofs.lemmas.Bool.{cases_lt}
use Rattle.std.proofs.lemmas.List.{get_or_default}
use Rattle.std.proofs.lemmas.List.Edits.{length-insert, get_or-insert_below, get_or-insert_at, get_or-insert_above}
use Rattle.std.proofs.lemmas.List.Sorted.{searched, Contains-permutation, IsPermutation-insert, IsPermutation-sym, IsPermutation-to_front, IsPermutation-trans}
use Rattle.mask_list.specs.Masks.{AreMasksOf}

-- a mask that isn't there stands behind the lesser ones, and before the greater ones
pub record IsGap (xs : List ℕ) (mask place : ℕ) : Type 0 where
  pub within : place ≤ length xs
  pub below : (k : ℕ) → k < place → get_or xs k 0 < mask
  pub above : (k : ℕ) → place ≤ k → k < length xs → mask < get_or xs k 0

module _ (xs : List ℕ) (rising : IsStrictlyIncreasing xs) (mask : ℕ) where
  -- they rise from any place on
  rises_on : (i n : ℕ) → i + n < length xs → get_or xs i 0 ≤ get_or xs (i + n) 0
  rises_on i zero lt = let same : i + zero ≡ i = omega arith in omega (arith, ap (λ k. get_or xs k 0) same)
  rises_on i (suc n) lt =
      let next = subst (λ k. get_or xs (i + n) 0 < get_or xs k 0) {x = i + n + 1} {y = i + suc n} (omega arith) (rising (i + n) (omega arith)) in
      omega (arith, rises_on i n (omega arith), next)

  -- a search by halving finds the mask, or its gap
  halved : (r : Result ℕ ℕ) → IsBinarySearchResult (λ y. nat_cmp y mask) xs r
      → MatchResult r (λ i. (i < length xs) × (get_or xs i 0 ≡ mask)) (λ i. (i ≤ length xs) × ((k : ℕ) → k < i → get_or xs k 0 < mask) × ((k : ℕ) → i ≤ k → k < length xs → mask < get_or xs k 0))
  halved r found = searched xs mask r found (λ i j le lt. subst (λ k. get_or xs i 0 ≤ get_or xs k 0) {x = i + (j - i)} (omega arith) (rises_on i (j - i) (omega arith)))

  pub gap : (place : ℕ) → IsBinarySearchResult (λ y. nat_cmp y mask) xs (Err place) → IsGap xs mask place
  gap place found = let at = halved (Err place) found in record { within = at.0; below = at.1; above = at.2 }

  -- so it ends at a mask that is there
  pub place_of : (place : ℕ) (r : Result ℕ ℕ) → IsBinarySearchResult (λ y. nat_cmp y mask) xs r → (r ≡ Ok place) ⊎ (r ≡ Err place) → Contains xs mask → (place < length xs) × (get_or xs place 0 ≡ mask)
  place_of place r found either (k, lt, is) = elim either [
    | inl there ↦ halved (Ok place) (subst (IsBinarySearchResult (λ y. nat_cmp y mask) xs) there found)
    | inr not_there ↦
        let at = gap place (subst (IsBinarySearchResult (λ y. nat_cmp y mask) xs) not_there found) in
        let here : get_or xs k 0 ≡ mask = omega (arith, get_or_default xs k mask 0 lt, is) in
        absurd (elim (cases_lt k place) [ inl l ↦ omega (arith, at.below k l, here) | inr past ↦ omega (arith, at.above k past lt, here) ])
  ]

-- a mask is added in its gap
module _ (xs : List ℕ) (mask place : ℕ) (gap : IsGap xs mask place) where
  pub rising-insert : IsStrictlyIncreasing xs → IsStrictlyIncreasing (insert xs place mask)
  rising-insert rising k lt =
      let new = insert xs place mask in
      let long = length-insert xs place mask gap.within in
      let below : (k : ℕ) → k < place → get_or new k 0 ≡ get_or xs k 0 = λ k l. get_or-insert_below xs place mask 0 k l gap.within in
      let here : (k : ℕ) → k ≡ place → get_or new k 0 ≡ mask = λ k e. rw e (get_or-insert_at xs place mask 0 gap.within) in
      let above : (k : ℕ) → place ≤ k → get_or new (k + 1) 0 ≡ get_or xs k 0 = λ k le. get_or-insert_above xs place mask 0 k le gap.within in
      let behind : (k : ℕ) → place < k → get_or new k 0 ≡ get_or xs (k - 1) 0 = λ k l. subst (λ q. get_or new q 0 ≡ get_or xs (k - 1) 0) {x = k - 1 + 1} (omega arith) (above (k - 1) (omega arith)) in
      grind (arith, below k, below (k + 1), here k, here (k + 1), above k, behind k, rising k, rising (k - 1), gap.below k, gap.above k)

  pub masks-insert : AreMasksOf (insert xs place mask) (xs ++ mask ∷ [])
  masks-insert q =
      let moved = IsPermutation-trans _ _ _ (IsPermutation-to_front xs mask) (IsPermutation-insert xs place mask) in
      (Contains-permutation _ _ q (IsPermutation-sym _ _ moved), Contains-permutation _ _ q moved)
