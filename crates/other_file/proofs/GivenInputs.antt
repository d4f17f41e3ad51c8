-- That what a file without a fault gives fits the plan.
use Rattle.std.proofs.Common.{◌≡◌, ℕ, ◌^◌, ◌<◌, Bool, true, false, List, [], length, refl, Option, None, Some, sym, ap, ◌∙◌, subst, arith, inl, inr}
use Rattle.std.specs.Prelude.{not, ◌==◌, if◌then◌else◌, slice_index, slice_index_or}
use Rattle.std.specs.Option.{option_map, option_or}
use Rattle.std.proofs.lemmas.Bool.{cases_lt, eqb-true, not-false}
use Rattle.std.proofs.lemmas.List.{get_or_past}
use Rattle.std.proofs.lemmas.Nat.{pow_pos}
use Rattle.toml.specs.Data.{Members}
use Rattle.toml_fields.specs.Fields.{has_field, is_misfit, texts_at}
use Rattle.toml_fields.specs.declared.kind.Kind.TheVariants as kind
use Rattle.list_laws.specs.Lists.{total, listed}
use Rattle.list_laws.specs.Checks.{first_fault}
use Rattle.list_laws.proofs.FirstFaults.{none_failed, listed-passed}
use Rattle.list_laws.proofs.JoinedLists.{length-listed, listed_at}
use Rattle.party_names.specs.Names.{name_at}
use Rattle.session_slots.specs.Sessions.{owners}
use Rattle.plan_model.specs.Plans.{Plan, session, gives}
use Rattle.plan_model.specs.InputWords.{AreInputs}
use Rattle.party_file.specs.Table.{input_checks, sessions_given}
use Rattle.party_file.specs.declared.fault.PartyFault.{PartyFault}
use Rattle.party_file.specs.declared.fault.PartyFault.TheVariants.{CountDiffers}
use Rattle.party_file.proofs.SessionInputs.{given_of}
use Rattle.party_file.proofs.PlanFit.{input_count, input_ring, word_below}
use Rattle.other_file.specs.declared.fault.OtherFault.TheVariants.{File, WrongKind, Inputs}
use Rattle.other_file.specs.declared.fault.OtherFault.{OtherFault}
use Rattle.other_file.specs.Table.{inputs_in, file_checks, text_checks, party_fault, party_inputs, other_fault, other_inputs}

-- a party's inputs, by session, fit the plan
record Gives (plan : Plan) (p : ℕ) (words : List (List ℕ)) : Type 0 where
  sessions : length words ≡ length plan.sessions
  counts : (s : ℕ) → s < length plan.sessions → length (slice_index_or words s []) ≡ total (length (owners (session plan s))) (λ v. if gives plan s p v then 1 else 0)
  below : (s k : ℕ) → slice_index (slice_index_or words s []) k < 2 ^ plan.bits

texts_give : (numeric : List Bool) (plan : Plan) (p : ℕ) (texts : List (List ℕ)) → first_fault (text_checks numeric plan p texts) ≡ None → Gives plan p (sessions_given numeric plan p texts)
unfolding text_checks
texts_give numeric plan p texts e =
    let parts = none_failed (not (length texts == length plan.sessions)) (CountDiffers None (length plan.sessions) (length texts)) (first_fault (input_checks numeric plan p texts)) e in
    let counted : length texts ≡ length plan.sessions = eqb-true _ _ (not-false (length texts == length plan.sessions) parts.0) in
    record {
      sessions = length-listed (length texts) (given_of numeric plan p texts) ∙ counted;
      counts = input_count numeric plan p texts counted parts.1;
      below = λ s k. word_below plan.bits (slice_index_or (sessions_given numeric plan p texts) s []) k (input_ring numeric plan p texts counted parts.1 s);
    }

mapped_none : (p : ℕ) (o : Option PartyFault) → option_map (λ fault. Inputs p fault) o ≡ None → o ≡ None
mapped_none p None e = refl
mapped_none p (Some fault) e = cc

module _ (numeric : List Bool) (plan : Plan) (names : List (List ℕ)) (inputs : List (List (List ℕ))) (are : AreInputs plan inputs) (table : Members) (p : ℕ) (l : p < plan.parties) where
  old_give : Gives plan p (slice_index_or inputs p [])
  old_give = record { sessions = are.sessions p l; counts = λ s ls. are.counts p s l ls; below = are.below p }

  give : (named misfit : Bool) (texts : List (List ℕ))
      → (if not named then None else if misfit then Some (WrongKind p) else option_map (λ fault. Inputs p fault) (first_fault (text_checks numeric plan p texts))) ≡ None
      → Gives plan p (if named then sessions_given numeric plan p texts else slice_index_or inputs p [])
  give false misfit texts e = old_give
  give true true texts e = cc
  give true false texts e = texts_give numeric plan p texts (mapped_none p (first_fault (text_checks numeric plan p texts)) e)

  party_gives : party_fault numeric plan names table p ≡ None → Gives plan p (party_inputs numeric plan names inputs table p)
  unfolding party_fault party_inputs
  party_gives e = give (has_field (name_at names p) table) (is_misfit kind.Texts (name_at names p) table) (texts_at (name_at names p) table) e

-- the inputs of all parties fit
pub all_fit : (numeric : List Bool) (plan : Plan) (names : List (List ℕ)) (inputs : List (List (List ℕ))) (table : Members) → AreInputs plan inputs → first_fault (listed plan.parties (party_fault numeric plan names table)) ≡ None
    → AreInputs plan (listed plan.parties (party_inputs numeric plan names inputs table))
all_fit numeric plan names inputs table are passed = record {
  parties = length-listed plan.parties words;
  sessions = λ p l. ap length (at p l) ∙ (own p l).sessions;
  counts = λ p s l ls. ap (λ ws. length (slice_index_or ws s [])) (at p l) ∙ (own p l).counts s ls;
  below = λ p s k. elim (cases_lt p plan.parties) [
    | inl l ↦ subst (λ ws. slice_index (slice_index_or ws s []) k < 2 ^ plan.bits) (sym (at p l)) ((own p l).below s k)
    | inr past ↦ subst (λ ws. slice_index (slice_index_or ws s []) k < 2 ^ plan.bits) (sym (get_or_past (listed plan.parties words) p [] (omega (arith, past, length-listed plan.parties words)))) (pow_pos plan.bits)
  ];
}
  where
    words : ℕ → List (List ℕ)
    words p = party_inputs numeric plan names inputs table p

    at : (p : ℕ) → p < plan.parties → slice_index_or (listed plan.parties words) p [] ≡ words p
    at p l = listed_at plan.parties words p [] l

    own : (p : ℕ) (l : p < plan.parties) → Gives plan p (words p)
    own p l = party_gives numeric plan names inputs are table p l (listed-passed plan.parties p (party_fault numeric plan names table) l passed)

passed_second : (o : Option PartyFault) (rest : Option OtherFault) → option_or (option_map (λ fault. File fault) o) rest ≡ None → rest ≡ None
passed_second None rest e = e
passed_second (Some fault) rest e = cc

-- what a file without a fault gives
pub given_fit : (numeric : List Bool) (plan : Plan) (names : List (List ℕ)) (inputs : List (List (List ℕ))) (fields : Members) → AreInputs plan inputs → other_fault numeric plan names fields ≡ None
    → AreInputs plan (other_inputs numeric plan names inputs fields)
unfolding other_fault other_inputs
given_fit numeric plan names inputs fields are e = all_fit numeric plan names inputs (inputs_in fields) are (passed_second (first_fault (file_checks names fields)) _ e)
