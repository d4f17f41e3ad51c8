-- Masks that are added one after another.
use Rattle.std.proofs.Common.{ℕ, List, [], ◌∷◌, ◌++◌, append_assoc, sym, subst, inl, inr}
use Rattle.std.specs.List.{Contains}
use Rattle.std.proofs.lemmas.List.Elements.{Contains-append_left, Contains-append_right, Contains-append_cases}
use Rattle.mask_list.specs.Masks.{AreMasksOf}

-- masks were added to the first ones, and now one more
pub one_more : (xs list masks new : List ℕ) (mask : ℕ) → AreMasksOf masks (xs ++ list) → AreMasksOf new (masks ++ mask ∷ []) → AreMasksOf new (xs ++ (list ++ mask ∷ []))
one_more xs list masks new mask before added q =
    let same = append_assoc xs list (mask ∷ []) in (
      λ h. subst (λ (ys : List ℕ). Contains ys q) same (elim (Contains-append_cases masks (mask ∷ []) q ((added q).0 h)) [
        | inl old ↦ Contains-append_left (xs ++ list) (mask ∷ []) q ((before q).0 old)
        | inr this ↦ Contains-append_right (xs ++ list) (mask ∷ []) q this
      ]),
      λ h. (added q).1 (elim (Contains-append_cases (xs ++ list) (mask ∷ []) q (subst (λ (ys : List ℕ). Contains ys q) (sym same) h)) [
        | inl old ↦ Contains-append_left masks (mask ∷ []) q ((before q).1 old)
        | inr this ↦ Contains-append_right masks (mask ∷ []) q this
      ]),
    )
