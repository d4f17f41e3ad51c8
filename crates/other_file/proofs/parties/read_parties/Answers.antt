use Rattle.std.proofs.Common.{◌≡◌, ℕ, List, ◌∷◌, [], ◌++◌, sym, ap, ap₂, ◌∙◌, arith}
use Rattle.std.specs.Global.{Vec}
use Rattle.std.proofs.lemmas.List.{map-append}
use Rattle.toml.specs.View.{table_view}
use Rattle.list_laws.specs.Lists.{listed}
use Rattle.list_laws.specs.Checks.{first_fault}
use Rattle.list_laws.proofs.JoinedLists.{joined_more}
use Rattle.plan_model.specs.InputWords.{session_words, input_words}
use Rattle.other_file.specs.Table.{party_fault, party_inputs}
use Rattle.other_file.specs.declared.fault.OtherFault.TheVariants.{Memory}
use Rattle.list_laws.proofs.FirstFaults.{listed_more-passed, listed-stops, stops_by}
use Rattle.other_file.proofs.parties.read_parties.Goals as goal

pub returns-in_err-read_party-clause-fault : goal.returns-in_err-read_party-clause-fault
returns-in_err-read_party-clause-fault c =
    let plan = c.args.plan.now in
    stops_by Memory c.from_residual.result _ _ _ c.from_residual.ensures.1
    (λ h. listed-stops plan.parties c.loop-party.party (party_fault c.args.numeric.now plan c.args.names.now (table_view c.args.given.now)) _ (omega arith) c.loop-party.invariant.passed h)
    c.in_err-read_party.ensures.fault

pub loop-party-preserved : goal.loop-party-preserved
loop-party-preserved c =
    let plan = c.args.plan.now in
    let given = table_view c.args.given.now in
    let p = c.loop-party.party in
    let own = party_inputs c.args.numeric.now c.args.plan.now c.args.names.now c.args.inputs.now given in
    record {
      passed = listed_more-passed p (party_fault c.args.numeric.now plan c.args.names.now given) c.loop-party.invariant.passed c.in_ok-read_party.ensures.passed.0;
      read =
          ap input_words c.in_ok-push.ensures.items
          ∙ map-append (λ (sessions : Vec (Vec ℕ)). session_words sessions.items) c.loop-party.words.items (c.in_ok-read_party.field-0 ∷ [])
          ∙ ap₂ (λ (xs : List (List (List ℕ))) (x : List (List ℕ)). xs ++ x ∷ []) c.loop-party.invariant.read c.in_ok-read_party.ensures.passed.1
          ∙ sym (joined_more p (λ i. own i ∷ []));
    }

pub returns-clause-passed : goal.returns-clause-passed
returns-clause-passed c =
    let plan = c.args.plan.now in
    let given = table_view c.args.given.now in
    let all : c.loop-party.party ≡ plan.parties = omega arith in (
      ap (λ n. first_fault (listed n (party_fault c.args.numeric.now plan c.args.names.now given))) (sym all) ∙ c.loop-party.invariant.passed,
      c.loop-party.invariant.read ∙ ap (λ n. listed n (party_inputs c.args.numeric.now c.args.plan.now c.args.names.now c.args.inputs.now given)) all,
    )
