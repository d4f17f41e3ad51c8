-- The checks of a session of numbers.
use Rattle.std.proofs.Common.{◌≡◌, ℕ, zero, suc, ◌+◌, ◌*◌, ◌/◌, ◌^◌, ◌<◌, ◌≤◌, nat_eq, nat_lt, nat_le, List, [], ◌∷◌, ◌++◌, length, Option, Some, None, Result, Ok, Err, inl, inr, sym, ◌∙◌, ap, ap₂, arith}
use Rattle.std.specs.Result.{IsErrAnd}
use Rattle.std.specs.Prelude.{◌==◌}
use Rattle.std.proofs.Math.Nat.{div-eq_of_lt, lt-div-mul-add}
use Rattle.std.proofs.Math.Pow.{pow_mono}
use Rattle.std.proofs.lemmas.Bool.{cases_lt, lt-ltb, le-ltb, le-leb, eq-eqb, ne_eqb, eqb-true, not-false}
use Rattle.std.proofs.lemmas.Nat.{pow_pos}
use Rattle.list_laws.specs.Checks.{first_fault, or_fault}
use Rattle.list_laws.proofs.FirstFaults.{after_passed, first-front, first-one, not_failed}
use Rattle.party_file.specs.Table.{bad_words, number_checks, numbers_in, numbers_outside, number_widths, other_count}
use Rattle.party_file.specs.declared.fault.PartyFault.{PartyFault}
use Rattle.party_file.specs.declared.fault.PartyFault.TheVariants.{CountDiffers}
use Rattle.party_file.proofs.GivenWidths.{number_widths_long}

-- ---- the bits of a number

pub all_within : (n bits : ℕ) → n < 2 ^ 64 → 64 ≤ bits → nat_le 64 bits ≡ nat_lt n (2 ^ bits)
all_within n bits small l = le-leb 64 bits l ∙ sym (lt-ltb n (2 ^ bits) (omega (arith, small, pow_mono l)))

pub none_above : (n bits : ℕ) → nat_eq (n / 2 ^ bits) 0 ≡ nat_lt n (2 ^ bits)
none_above n bits = elim (cases_lt n (2 ^ bits)) [
  | inl l ↦ eq-eqb _ 0 (div-eq_of_lt l) ∙ sym (lt-ltb n (2 ^ bits) l)
  | inr past ↦ ne_eqb _ 0 (over (n / 2 ^ bits) (2 ^ bits) past below) ∙ sym (le-ltb n (2 ^ bits) past)
]
  where
    below : n < n / 2 ^ bits * 2 ^ bits + 2 ^ bits
    below = lt-div-mul-add (pow_pos bits)

    over : (d p : ℕ) → p ≤ n → n < d * p + p → d ≡ 0 → ⊥
    over zero p past l e = omega arith
    over (suc d) p past l e = omega arith

-- ---- the checks

-- a fault that is handed on
pub handed_on : (r : Result Unit PartyFault) (e : PartyFault) (o : Option PartyFault) → IsErrAnd r (λ f. f ≡ e) → o ≡ Some e → r ≡ or_fault o tt
handed_on (Ok u) e o is h = absurd is
handed_on (Err f) e o is h = ap Err is ∙ ap (λ x. or_fault x tt) (sym h)

module _ (lanes : ℕ) (widths : List ℕ) (s : ℕ) (text found allowed : List ℕ) (found_is : found ≡ numbers_in text) (allowed_are : allowed ≡ number_widths lanes widths) where
  -- what follows the check of the text, and that of the widths
  abbrev last : List (Option PartyFault)
  last = other_count (length widths * lanes) s (numbers_in text) ∷ []

  abbrev rest : List (Option PartyFault)
  rest = numbers_outside (number_widths lanes widths) s (numbers_in text) ++ last

  abbrev All_checks : Option PartyFault → Type 0
  All_checks o = first_fault (number_checks lanes widths s text) ≡ o

  same_numbers : first_fault (numbers_outside (number_widths lanes widths) s (numbers_in text)) ≡ first_fault (numbers_outside allowed s found)
  same_numbers = ap₂ (λ w n. first_fault (numbers_outside w s n)) (sym allowed_are) (sym found_is)

  pub numbers_pass : first_fault (numbers_outside allowed s found) ≡ None → first_fault (numbers_outside (number_widths lanes widths) s (numbers_in text)) ≡ None
  numbers_pass r = same_numbers ∙ r

  allowed_long : length allowed ≡ length widths * lanes
  allowed_long = ap length allowed_are ∙ number_widths_long lanes widths

  same_count : (wanted : ℕ) → wanted ≡ length allowed → first_fault last ≡ first_fault (other_count wanted s found ∷ [])
  same_count wanted are = ap₂ (λ k n. first_fault (other_count k s n ∷ [])) (sym (are ∙ allowed_long)) (sym found_is)

  module _ (good : first_fault (bad_words (Some s) text ∷ []) ≡ None) where
    pub at_numbers : (fault : PartyFault) → first_fault (numbers_outside allowed s found) ≡ Some fault → All_checks (Some fault)
    unfolding number_checks
    at_numbers fault h = after_passed (bad_words (Some s) text ∷ []) rest _ good (first-front (numbers_outside (number_widths lanes widths) s (numbers_in text)) last fault (same_numbers ∙ h))

    pub at_count : (wanted : ℕ) (o : Option PartyFault) → wanted ≡ length allowed → first_fault (numbers_outside (number_widths lanes widths) s (numbers_in text)) ≡ None → first_fault (other_count wanted s found ∷ []) ≡ o → All_checks o
    unfolding number_checks
    at_count wanted o are r h = after_passed (bad_words (Some s) text ∷ []) rest o good (after_passed (numbers_outside (number_widths lanes widths) s (numbers_in text)) last o r (same_count wanted are ∙ h))

  -- as many numbers as values and lanes
  pub all_numbers : (wanted : ℕ) → wanted ≡ length allowed → first_fault (other_count wanted s found ∷ []) ≡ None → length found ≡ length widths * lanes
  all_numbers wanted are h =
      eqb-true (length found) wanted (not-false (length found == wanted) (not_failed _ (CountDiffers (Some s) wanted (length found)) (sym (first-one (other_count wanted s found)) ∙ h)))
      ∙ are ∙ allowed_long

pub at_words : (lanes : ℕ) (widths : List ℕ) (s : ℕ) (text : List ℕ) (fault : PartyFault) → first_fault (bad_words (Some s) text ∷ []) ≡ Some fault → first_fault (number_checks lanes widths s text) ≡ Some fault
unfolding number_checks
at_words lanes widths s text fault h = first-front (bad_words (Some s) text ∷ []) (numbers_outside (number_widths lanes widths) s (numbers_in text) ++ other_count (length widths * lanes) s (numbers_in text) ∷ []) fault h
