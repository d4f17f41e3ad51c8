-- What is carried fits where nothing is wrong.
use Rattle.std.proofs.Common.{◌≡◌, ℕ, zero, suc, List, [], ◌∷◌, inl, inr, length, refl, sym, ap, ◌∙◌, subst, arith}
use Rattle.std.specs.Prelude.{All, ◌==◌, slice_get, Option, Some, None, IsSomeAnd}
use Rattle.std.specs.Option.{option_or}
use Rattle.std.proofs.lemmas.Bool.{cases_Bool, cond-false, eqb-true}
use Rattle.plan_faults.specs.declared.part_fault.PartFault.{PartFault}
use Rattle.plan_faults.specs.declared.part_fault.PartFault.TheVariants.{CarryWidth}
use Rattle.session_slots.specs.declared.values.Owner.{Owner}
use Rattle.session_slots.specs.declared.values.Owner.TheVariants.{Carried}
use Rattle.session_slots.specs.declared.values.InputValue.{InputValue}
use Rattle.session_slots.specs.declared.values.OutputValue.{OutputValue}
use Rattle.session_slots.specs.Sessions.{Session, session_at}
use Rattle.job_session.specs.Parts.{input_values, AreEarlier, carry_fault, owner_fault, carries_fault}
use Rattle.session_slots.specs.Carries.{IsCarriedFrom, CarriesFit}

-- neither of two faults is there
neither : (a b : Option PartFault) → option_or a b ≡ None → (a ≡ None) × (b ≡ None)
neither None b e = (refl, e)
neither (Some f) b e = cc

has_width : (width c count : ℕ) (value : Option OutputValue) → carry_fault width c count value ≡ None → IsSomeAnd value (λ (value : OutputValue). value.width ≡ width)
has_width width c count None e = cc
has_width width c count (Some value) e = elim (cases_Bool (value.width == width)) [
  | inl same ↦ eqb-true value.width width same
  | inr other ↦ (let fault = cond-false (value.width == width) None (Some (CarryWidth width value.width)) other in cc)
]

-- what is carried fits where nothing is wrong
fit : (earlier : List Session) (ws : List ℕ) (ps : List Owner) → AreEarlier (length earlier) ps → carries_fault earlier ws ps ≡ None
    → All (λ (value : InputValue). (r c : ℕ) → value.owner ≡ Carried r c → IsCarriedFrom earlier r c value.width) (input_values ws ps)
fit earlier [] ps among none k d l = absurd (omega (arith, l))
fit earlier (w ∷ ws) [] among none k d l = absurd (omega (arith, l))
fit earlier (w ∷ ws) (p ∷ ps) among none zero d l = λ r c is. (
    let here = (neither (owner_fault earlier w p) (carries_fault earlier ws ps) none).0 in
    let outputs = (session_at earlier r).outputs in
    record {
      session = among 0 p (omega arith) r c is;
      value = has_width w c (length outputs) (slice_get outputs c) (ap (owner_fault earlier w) (sym is) ∙ here);
    })
fit earlier (w ∷ ws) (p ∷ ps) among none (suc k) d l =
    fit earlier ws ps (λ j e h. among (suc j) e (omega (arith, h))) (neither (owner_fault earlier w p) (carries_fault earlier ws ps) none).1 k d (omega (arith, l))

pub carries_fit : (earlier : List Session) (s : Session) (ws : List ℕ) (ps : List Owner) → s.inputs ≡ input_values ws ps → AreEarlier (length earlier) ps → carries_fault earlier ws ps ≡ None → CarriesFit earlier s
carries_fit earlier s ws ps is among none =
    subst (λ values. All (λ (value : InputValue). (r c : ℕ) → value.owner ≡ Carried r c → IsCarriedFrom earlier r c value.width) values) (sym is) (fit earlier ws ps among none)
