-- The inputs of a party, session by session.
use Rattle.std.proofs.Common.{◌≡◌, ℕ, Bool, ◌<◌, ◌≤◌, List, [], ◌∷◌, ◌++◌, length, map, get_or, None, Some, sym, ◌∙◌, ap, arith, Option}
use Rattle.std.specs.Prelude.{slice_index_or}
use Rattle.std.specs.Global.{Vec}
use Rattle.std.proofs.lemmas.List.{get_or-map, length-map, map-append}
use Rattle.toml.specs.View.{view}
use Rattle.toml.specs.declared.value.Value.{Value}
use Rattle.toml_fields.specs.Fields.{text_of}
use Rattle.plan_model.specs.Plans.{Plan, words}
use Rattle.plan_model.specs.InputWords.{session_words}
use Rattle.list_laws.specs.Lists.{joined}
use Rattle.list_laws.proofs.JoinedLists.{length-listed}
use Rattle.list_laws.specs.Checks.{first_fault}
use Rattle.party_file.specs.Table.{session_checks, session_given, input_checks, word_counts}
use Rattle.party_file.specs.declared.fault.PartyFault.{PartyFault}
use Rattle.list_laws.proofs.FirstFaults.{joined-stops}

abbrev pub checks_of : List Bool → Plan → ℕ → List (List ℕ) → ℕ → List (Option PartyFault)
checks_of numeric plan p texts s = session_checks numeric plan p s (slice_index_or texts s [])

abbrev pub given_of : List Bool → Plan → ℕ → List (List ℕ) → ℕ → List ℕ
given_of numeric plan p texts s = session_given numeric plan p s (slice_index_or texts s [])

pub inputs-stop : (numeric : List Bool) (plan : Plan) (p : ℕ) (texts : List (List ℕ)) (s : ℕ) (fault : PartyFault) → s < length plan.sessions → first_fault (joined s (checks_of numeric plan p texts)) ≡ None
    → first_fault (checks_of numeric plan p texts s) ≡ Some fault → first_fault (input_checks numeric plan p texts) ≡ Some fault
unfolding input_checks
inputs-stop numeric plan p texts s fault l before here = joined-stops (length plan.sessions) s (checks_of numeric plan p texts) fault l before here

pub inputs-passed : (numeric : List Bool) (plan : Plan) (p : ℕ) (texts : List (List ℕ)) (s : ℕ) → s ≡ length plan.sessions → first_fault (joined s (checks_of numeric plan p texts)) ≡ None
    → first_fault (input_checks numeric plan p texts) ≡ None
unfolding input_checks
inputs-passed numeric plan p texts s e h = ap (λ k. first_fault (joined k (checks_of numeric plan p texts))) (sym e) ∙ h

pub few_counts : (plan : Plan) (p : ℕ) (counts : List ℕ) → counts ≡ word_counts plan p → length plan.sessions ≤ 16 → length counts ≤ 16
unfolding word_counts
few_counts plan p counts e l = omega (arith, ap length e, length-listed (length plan.sessions) (words plan p))

-- the text of an item of a list
pub text_at_place : (items : List Value) (s : ℕ) (d : Value) (text : List ℕ) → s < length items → d ≡ get_or items s d → text ≡ text_of (view d) → text ≡ slice_index_or (map text_of (map view items)) s []
text_at_place items s d text l is e =
    let at : slice_index_or (map text_of (map view items)) s [] ≡ text_of (slice_index_or (map view items) s (view d)) = get_or-map text_of (map view items) s (view d) [] (omega (arith, l, length-map items view)) in
    let inner : slice_index_or (map view items) s (view d) ≡ view (get_or items s d) = get_or-map view items s d (view d) l in
    e ∙ ap (λ v. text_of (view v)) is ∙ ap text_of (sym inner) ∙ sym at

pub pushed : (before after : List (Vec ℕ)) (words : Vec ℕ) → after ≡ before ++ words ∷ [] → session_words after ≡ session_words before ++ words.items ∷ []
pushed before after words e = ap session_words e ∙ map-append (λ (v : Vec ℕ). v.items) before (words ∷ [])
