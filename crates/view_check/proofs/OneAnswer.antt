-- Each text has one answer.
use Rattle.std.proofs.Common.{◌≡◌, ◌⊎◌, ℕ, List, inl, inr, Result, Ok, Err, refl}
use Rattle.party_names.specs.Names.{AreNames}
use Rattle.plan_model.specs.declared.key.Key.{Key}
use Rattle.view_check.specs.declared.fault.CheckFault.{CheckFault}
use Rattle.view_check.specs.Views.{verdict}
use Rattle.view_check.specs.Laws.{AreTold, IsView, HasOneAnswer}
use Rattle.view_check.proofs.ViewLaws.{view_is, is_view}

pub one_count : {c d : ℕ} {r : Result ℕ CheckFault} → r ≡ Ok c → r ≡ Ok d → c ≡ d
one_count e f = cc

pub not_both : {P : Type 0} {c : ℕ} {f : CheckFault} {r : Result ℕ CheckFault} → r ≡ Ok c → r ≡ Err f → P
not_both e f = cc

module _ (names : List (List ℕ)) (see : ℕ → List (Key × ℕ)) (text : List ℕ) (are : AreNames names) (told : AreTold names see) where
  either : (r : Result ℕ CheckFault) → verdict names see text ≡ r → ((count : ℕ) × IsView names see text count) ⊎ ((fault : CheckFault) × (verdict names see text ≡ Err fault))
  either (Ok count) e = inl (count, view_is names see are told text count e)
  either (Err fault) e = inr (fault, e)

  pub yes : (count : ℕ) → IsView names see text count → verdict names see text ≡ Ok count
  yes count h = is_view names see are told text count h

pub one_answer : HasOneAnswer
one_answer names see text are told = (
  either names see text are told (verdict names see text) refl,
  (λ count other h g. one_count (yes names see text are told count h) (yes names see text are told other g)),
  (λ count fault h e. not_both (yes names see text are told count h) e),
)
