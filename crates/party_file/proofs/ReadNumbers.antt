-- A file without a fault has the numbers of each session of numbers, and the words that it gives stand for them.
use Rattle.std.proofs.Common.{◌≡◌, ℕ, ◌+◌, ◌*◌, ◌^◌, ◌<◌, Bool, true, nat_lt, List, [], ◌∷◌, ◌++◌, length, Option, None, Some, sym, ◌∙◌, ap, subst, arith}
use Rattle.std.specs.Prelude.{codes, ◌==◌, slice_index, slice_index_or}
use Rattle.std.proofs.lemmas.Bool.{eqb-true, ltb-true, not-false, cond-true}
use Rattle.std.proofs.lemmas.Nat.{mul-add-lt}
use Rattle.toml.specs.Data.{Members}
use Rattle.toml_fields.specs.Fields.{texts_at}
use Rattle.list_laws.specs.Checks.{first_fault}
use Rattle.list_laws.specs.Lists.{total, listed}
use Rattle.list_laws.proofs.FirstFaults.{passed-front, passed-back, joined-passed, listed-passed, first-one, not_failed, or_fault-ok}
use Rattle.list_laws.proofs.JoinedLists.{joined_place, listed_at, length-listed}
use Rattle.list_laws.proofs.Totals.{total_eq}
use Rattle.plan_model.specs.Plans.{Plan, session}
use Rattle.value_words.specs.Turned.{is_numeric, most_bits, wires_of}
use Rattle.value_words.proofs.Turns.{number_read}
use Rattle.session_slots.specs.Counts.{owned}
use Rattle.party_file.specs.Table.{version_checks, name_checks, kind_checks, count_checks, input_checks, party_checks, party_given, party_in, party_in_fields, PartyForm, bad_words, given_widths, number_checks, number_outside, number_widths, numbers_in, numbers_outside, other_count, sessions_given, wire_checks}
use Rattle.party_file.specs.declared.fault.PartyFault.{PartyFault}
use Rattle.party_file.specs.declared.fault.PartyFault.TheVariants.{CountDiffers, WordOutOfRing}
use Rattle.party_file.specs.GivenNumbers.{InputsAreNumbers, StandFor}
use Rattle.party_file.proofs.FaultRows.{counted}
use Rattle.party_file.proofs.SessionInputs.{checks_of, given_of}
use Rattle.party_file.proofs.GivenWidths.{total_same}

module _ (lanes : ℕ) (widths : List ℕ) (s : ℕ) (text : List ℕ) (passed : first_fault (number_checks lanes widths s text) ≡ None) where
  abbrev numbers : List ℕ
  numbers = numbers_in text

  abbrev rest : List (Option PartyFault)
  rest = other_count (length widths * lanes) s numbers ∷ []

  all_passed : (first_fault (numbers_outside (number_widths lanes widths) s numbers) ≡ None) × (first_fault rest ≡ None)
  unfolding number_checks
  all_passed =
      let after = passed-back (bad_words (Some s) text ∷ []) (numbers_outside (number_widths lanes widths) s numbers ++ rest) passed in
      (passed-front (numbers_outside (number_widths lanes widths) s numbers) rest after, passed-back (numbers_outside (number_widths lanes widths) s numbers) rest after)

  all_there : length numbers ≡ length widths * lanes
  all_there = eqb-true _ _ (not-false (length numbers == length widths * lanes) (not_failed _ (CountDiffers (Some s) (length widths * lanes) (length numbers)) (sym (first-one (other_count (length widths * lanes) s numbers)) ∙ all_passed.1)))

  -- the width of a number's value
  width_is : (value lane : ℕ) → value < length widths → lane < lanes → slice_index_or (number_widths lanes widths) (value * lanes + lane) most_bits ≡ slice_index widths value
  width_is value lane l within =
      let each = λ (v : ℕ). listed lanes (λ (i : ℕ). slice_index widths v) in
      let before : total value (λ v. length (each v)) ≡ value * lanes = total_eq value _ (λ v. lanes) (λ v m. length-listed lanes (λ i. slice_index widths v)) ∙ total_same value lanes in
      ap (λ n. slice_index_or (number_widths lanes widths) (n + lane) most_bits) (sym before)
      ∙ joined_place most_bits (length widths) value each lane l (subst (λ n. lane < n) (sym (length-listed lanes (λ (i : ℕ). slice_index widths value))) within)
      ∙ listed_at lanes (λ i. slice_index widths value) lane most_bits within

  number_fits : (place : ℕ) → place < length numbers → slice_index numbers place < 2 ^ slice_index_or (number_widths lanes widths) place most_bits
  number_fits place l =
      ltb-true _ _ (not-false (nat_lt (slice_index numbers place) (2 ^ slice_index_or (number_widths lanes widths) place most_bits))
      (not_failed _ (WordOutOfRing (Some s) place) (listed-passed (length numbers) place (number_outside (number_widths lanes widths) s numbers) l all_passed.0)))

  place_within : (value lane : ℕ) → value < length widths → lane < lanes → value * lanes + lane < length numbers
  place_within value lane l within = subst (λ n. value * lanes + lane < n) (sym all_there) (omega (arith, mul-add-lt value lanes lane (length widths) l within))

  words_stand : StandFor lanes widths (wires_of lanes widths numbers) numbers
  words_stand = record {
    count = all_there;
    each = λ value lane l within. number_read lanes widths numbers value lane l within
        (subst (λ n. slice_index numbers (value * lanes + lane) < 2 ^ n) (width_is value lane l within) (number_fits (value * lanes + lane) (place_within value lane l within)));
  }

module _ (numeric : List Bool) (plan : Plan) (p : ℕ) (fields : Members) where
  abbrev texts : List (List ℕ)
  texts = texts_at (codes "inputs") fields

  inputs_passed : first_fault (party_checks numeric plan p fields) ≡ None → (length texts ≡ length plan.sessions) × (first_fault (input_checks numeric plan p texts) ≡ None)
  unfolding party_checks
  inputs_passed e =
      let after_version = passed-back (version_checks fields) _ e in
      let after_names = passed-back (name_checks fields) _ after_version in
      let after_kinds = passed-back (kind_checks fields) _ after_names in (
        counted (length plan.sessions) fields (passed-front (count_checks (length plan.sessions) fields) _ after_kinds),
        passed-front (input_checks numeric plan p texts) _ (passed-back (count_checks (length plan.sessions) fields) _ after_kinds),
      )

  module _ (s : ℕ) (there : s < length plan.sessions) (of_numbers : is_numeric numeric s ≡ true) where
    abbrev text : List ℕ
    text = slice_index_or texts s []

    abbrev widths : List ℕ
    widths = given_widths (session plan s) p

    session_passed : first_fault (input_checks numeric plan p texts) ≡ None → first_fault (number_checks plan.bits widths s text) ≡ None
    unfolding input_checks
    session_passed e =
        ap first_fault (sym (cond-true (is_numeric numeric s) (number_checks plan.bits widths s text) (wire_checks plan.bits (owned (session plan s) p) s text) of_numbers))
        ∙ joined-passed (length plan.sessions) s (checks_of numeric plan p texts) there e

    words_given : length texts ≡ length plan.sessions → slice_index_or (sessions_given numeric plan p texts) s [] ≡ wires_of plan.bits widths (numbers_in text)
    words_given all =
        listed_at (length texts) (given_of numeric plan p texts) s [] (subst (λ n. s < n) (sym all) there)
        ∙ cond-true (is_numeric numeric s) (wires_of plan.bits widths (numbers_in text)) (numbers_in text) of_numbers

    fields_stand : first_fault (party_checks numeric plan p fields) ≡ None → StandFor plan.bits widths (slice_index_or (party_given numeric plan p fields).inputs s []) (numbers_in text)
    unfolding party_given
    fields_stand e =
        let good = inputs_passed e in
        subst (λ words. StandFor plan.bits widths words (numbers_in text)) (sym (words_given good.0)) (words_stand plan.bits widths s text (session_passed good.1))

pub inputs_stand : InputsAreNumbers
unfolding party_in
inputs_stand numeric plan p bytes fields form document read s there of_numbers =
    let good = or_fault-ok (first_fault (party_checks numeric plan p fields)) (party_given numeric plan p fields) form (sym read ∙ ap (party_in_fields numeric plan p) document) in
    subst (λ (f : PartyForm). StandFor plan.bits (given_widths (session plan s) p) (slice_index_or f.inputs s []) (numbers_in (slice_index_or (texts_at (codes "inputs") fields) s [])))
    (sym good.1) (fields_stand numeric plan p fields s there of_numbers good.0)
