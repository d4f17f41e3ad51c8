-- Where a fault stands among all checks of a party's file.
use Rattle.std.proofs.Common.{◌≡◌, ℕ, Bool, true, not, List, length, map, Option, None, Some, Ok, Err, sym, ◌∙◌, ap, inl, inr}
use Rattle.std.specs.Prelude.{codes, ◌⊎◌, sum, ◌==◌, ◌&&◌, ◌||◌, if◌then◌else◌}
use Rattle.std.proofs.lemmas.Bool.{eqb-true, not-false}
use Rattle.std.proofs.lemmas.List.{length-map}
use Rattle.toml.specs.Data.{Data, Members}
use Rattle.toml_fields.specs.Fields.{has_field, text_of, text_at, texts_at, items_at}
use Rattle.plan_model.specs.Plans.{Plan, words}
use Rattle.list_laws.specs.Lists.{listed}
use Rattle.tape_words.specs.Cuts.{cut}
use Rattle.tape_words.specs.Seeds.{seed_word}
use Rattle.toml_fields.specs.Documents.{document_of}
use Rattle.list_laws.specs.Checks.{◌answers◌, first_fault, or_fault}
use Rattle.party_file.specs.Table.{version_checks, name_checks, kind_checks, count_checks, input_checks, random_checks, seed_checks, seed_in, tape_checks, word_counts, party_checks, party_given, party_in, party_in_fields, PartyForm, sessions_given, numbers_in, tapes_of}
use Rattle.party_file.specs.declared.field.PartyField.TheVariants as field
use Rattle.party_file.specs.declared.fault.PartyFault.{PartyFault}
use Rattle.party_file.specs.declared.fault.PartyFault.TheVariants.{Memory, NotToml, TapeAndSeed, Missing, CountDiffers}
use Rattle.list_laws.proofs.FirstFaults.{first-front, after_passed, passed-three, not_failed}

pub texts_at-items : (key : List ℕ) (fields : Members) (items : List Data) → items ≡ items_at key fields → map text_of items ≡ texts_at key fields
unfolding texts_at
texts_at-items key fields items e = ap (map text_of) e

pub counted : (n : ℕ) (fields : Members) → first_fault (count_checks n fields) ≡ None → length (texts_at (codes "inputs") fields) ≡ n
unfolding count_checks
counted n fields e = eqb-true _ _ (not-false (length (texts_at (codes "inputs") fields) == n) (not_failed _ (CountDiffers None n (length (texts_at (codes "inputs") fields)))
    (passed-three ((has_field (codes "tape") fields && has_field (codes "seed") fields) answers TapeAndSeed) (not (has_field (codes "tape") fields || has_field (codes "seed") fields) answers Missing field.Tape)
    (not (length (texts_at (codes "inputs") fields) == n) answers CountDiffers None n (length (texts_at (codes "inputs") fields))) e).2))

pub counted_items : (n : ℕ) (fields : Members) (items : List Data) → items ≡ items_at (codes "inputs") fields → first_fault (count_checks n fields) ≡ None → length items ≡ n
counted_items n fields items is e = sym (length-map items text_of) ∙ ap length (texts_at-items (codes "inputs") fields items is) ∙ counted n fields e

module _ (numeric : List Bool) (plan : Plan) (p : ℕ) (fields : Members) where
  abbrev texts : List (List ℕ)
  texts = texts_at (codes "inputs") fields

  abbrev n : ℕ
  n = length plan.sessions

  pub at_version : (fault : PartyFault) → first_fault (version_checks fields) ≡ Some fault → first_fault (party_checks numeric plan p fields) ≡ Some fault
  unfolding party_checks
  at_version fault h = first-front (version_checks fields) _ fault h

  module _ (v : first_fault (version_checks fields) ≡ None) where
    pub at_names : (fault : PartyFault) → first_fault (name_checks fields) ≡ Some fault → first_fault (party_checks numeric plan p fields) ≡ Some fault
    unfolding party_checks
    at_names fault h = after_passed (version_checks fields) _ _ v (first-front (name_checks fields) _ fault h)

    module _ (w : first_fault (name_checks fields) ≡ None) where
      pub at_kinds : (fault : PartyFault) → first_fault (kind_checks fields) ≡ Some fault → first_fault (party_checks numeric plan p fields) ≡ Some fault
      unfolding party_checks
      at_kinds fault h = after_passed (version_checks fields) _ _ v (after_passed (name_checks fields) _ _ w (first-front (kind_checks fields) _ fault h))

      module _ (k : first_fault (kind_checks fields) ≡ None) where
        pub at_counts : (fault : PartyFault) → first_fault (count_checks n fields) ≡ Some fault → first_fault (party_checks numeric plan p fields) ≡ Some fault
        unfolding party_checks
        at_counts fault h =
            after_passed (version_checks fields) _ _ v (after_passed (name_checks fields) _ _ w (after_passed (kind_checks fields) _ _ k (first-front (count_checks n fields) _ fault h)))

        module _ (c : first_fault (count_checks n fields) ≡ None) where
          pub at_inputs : (fault : PartyFault) → first_fault (input_checks numeric plan p texts) ≡ Some fault → first_fault (party_checks numeric plan p fields) ≡ Some fault
          unfolding party_checks
          at_inputs fault h =
              after_passed (version_checks fields) _ _ v (after_passed (name_checks fields) _ _ w (after_passed (kind_checks fields) _ _ k
              (after_passed (count_checks n fields) _ _ c (first-front (input_checks numeric plan p texts) _ fault h))))

          pub at_random : (o : Option PartyFault) → first_fault (input_checks numeric plan p texts) ≡ None → first_fault (random_checks plan p fields) ≡ o → first_fault (party_checks numeric plan p fields) ≡ o
          unfolding party_checks
          at_random o i h =
              after_passed (version_checks fields) _ _ v (after_passed (name_checks fields) _ _ w (after_passed (kind_checks fields) _ _ k
              (after_passed (count_checks n fields) _ _ c (after_passed (input_checks numeric plan p texts) _ _ i h))))

-- the form of inputs and tapes that were read
pub form-read : (numeric : List Bool) (plan : Plan) (p : ℕ) (fields : Members) (inputs tapes : List (List ℕ)) → inputs ≡ sessions_given numeric plan p (texts_at (codes "inputs") fields) → tapes ≡ tapes_of plan p fields
    → record { inputs = inputs; tapes = tapes } ≡ party_given numeric plan p fields
unfolding party_given
form-read numeric plan p fields inputs tapes i t = cc

pub party_in-ok : (numeric : List Bool) (plan : Plan) (p : ℕ) (fields : Members) (form : PartyForm) → first_fault (party_checks numeric plan p fields) ≡ None → form ≡ party_given numeric plan p fields → party_in_fields numeric plan p (Some fields) ≡ Ok form
party_in-ok numeric plan p fields form e is = ap (λ o. or_fault o (party_given numeric plan p fields)) e ∙ ap Ok (sym is)

pub party_in-err : (numeric : List Bool) (plan : Plan) (p : ℕ) (fields : Members) (fault : PartyFault) → first_fault (party_checks numeric plan p fields) ≡ Some fault → party_in_fields numeric plan p (Some fields) ≡ Err fault
party_in-err numeric plan p fields fault e = ap (λ o. or_fault o (party_given numeric plan p fields)) e

pub file-ok : (numeric : List Bool) (plan : Plan) (p : ℕ) (bytes : List ℕ) (fields : Members) (form : PartyForm) → document_of bytes ≡ Some fields → first_fault (party_checks numeric plan p fields) ≡ None → form ≡ party_given numeric plan p fields
    → party_in numeric plan p bytes ≡ Ok form
unfolding party_in
file-ok numeric plan p bytes fields form d e is = ap (party_in_fields numeric plan p) d ∙ party_in-ok numeric plan p fields form e is

pub file-err : (numeric : List Bool) (plan : Plan) (p : ℕ) (bytes : List ℕ) (fields : Members) (fault : PartyFault) → document_of bytes ≡ Some fields → first_fault (party_checks numeric plan p fields) ≡ Some fault → party_in numeric plan p bytes ≡ Err fault
unfolding party_in
file-err numeric plan p bytes fields fault d e = ap (party_in_fields numeric plan p) d ∙ party_in-err numeric plan p fields fault e

pub or_file : (numeric : List Bool) (plan : Plan) (p : ℕ) (bytes : List ℕ) (fields : Members) (fault : PartyFault) → document_of bytes ≡ Some fields → (fault ≡ Memory) ⊎ (first_fault (party_checks numeric plan p fields) ≡ Some fault)
    → (fault ≡ Memory) ⊎ (party_in numeric plan p bytes ≡ Err fault)
or_file numeric plan p bytes fields fault d (inl memory) = inl memory
or_file numeric plan p bytes fields fault d (inr e) = inr (file-err numeric plan p bytes fields fault d e)

pub file-none : (numeric : List Bool) (plan : Plan) (p : ℕ) (bytes : List ℕ) → document_of bytes ≡ None → party_in numeric plan p bytes ≡ Err NotToml
unfolding party_in
file-none numeric plan p bytes d = ap (party_in_fields numeric plan p) d

-- the words of a seed that stands in the file
pub random_by_seed : (plan : Plan) (p : ℕ) (fields : Members) (text : List ℕ) (tapes : List (List ℕ)) → has_field (codes "seed") fields ≡ true → text ≡ text_at (codes "seed") fields
    → first_fault (seed_checks text) ≡ None → tapes ≡ listed (length plan.sessions) (λ s. listed (words plan p s) (seed_word plan.bits (seed_in text) s))
    → (first_fault (random_checks plan p fields) ≡ None) × (tapes ≡ tapes_of plan p fields)
unfolding random_checks tapes_of
random_by_seed plan p fields text tapes there is none t = (
  ap (λ b. first_fault (if b then seed_checks (text_at (codes "seed") fields) else tape_checks plan.bits (sum (word_counts plan p)) (text_at (codes "tape") fields))) there
      ∙ ap (λ u. first_fault (seed_checks u)) (sym is) ∙ none,
  t ∙ ap (λ (u : List ℕ). listed (length plan.sessions) (λ s. listed (words plan p s) (seed_word plan.bits (seed_in u) s))) is
      ∙ sym (ap (λ (b : Bool). if b then listed (length plan.sessions) (λ s. listed (words plan p s) (seed_word plan.bits (seed_in (text_at (codes "seed") fields)) s)) else cut (word_counts plan p) (numbers_in (text_at (codes "tape") fields))) there),
)
