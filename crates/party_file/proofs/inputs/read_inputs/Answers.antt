use Rattle.std.proofs.Common.{◌∙◌, ◌≡◌, ap, sym, map, length, arith, ◌<◌}
use Rattle.toml.specs.View.{view}
use Rattle.toml_fields.specs.Fields.{text_of}
use Rattle.std.proofs.lemmas.List.{length-map}
use Rattle.list_laws.specs.Checks.{first_fault}
use Rattle.list_laws.specs.Lists.{listed}
use Rattle.plan_model.proofs.GrownLists.{listed_push}
use Rattle.party_file.specs.Table.{session_checks, session_given}
use Rattle.party_file.proofs.SessionInputs.{inputs-stop, inputs-passed, pushed, text_at_place, checks_of, given_of}
use Rattle.party_file.specs.declared.fault.PartyFault.TheVariants.{Memory}
use Rattle.list_laws.proofs.FirstFaults.{stops_by, joined_more-passed}
use Rattle.party_file.proofs.inputs.read_inputs.Goals as goal

pub returns-in_err-words-clause-fault : goal.returns-in_err-words-clause-fault
returns-in_err-words-clause-fault c =
    let plan = c.args.plan.now in
    let numeric = c.args.numeric.now in
    let texts = map text_of (map view c.args.items.now) in
    let within : c.loop-session.session < length c.args.items.now = omega arith in
    let text = text_at_place c.args.items.now c.loop-session.session _ _ within c.index-items-session.is c.text_of-text.ensures in
    stops_by Memory c.from_residual.result _ _ _ c.from_residual.ensures.1
    (λ h. inputs-stop numeric plan c.args.party texts c.loop-session.session _ (omega arith) c.loop-session.invariant.checked
    (ap (λ t. first_fault (session_checks numeric plan c.args.party c.loop-session.session t)) (sym text) ∙ h)) c.in_err-words.ensures.fault

pub loop-session-preserved : goal.loop-session-preserved
loop-session-preserved c =
    let plan = c.args.plan.now in
    let numeric = c.args.numeric.now in
    let texts = map text_of (map view c.args.items.now) in
    let within : c.loop-session.session < length c.args.items.now = omega arith in
    let text = text_at_place c.args.items.now c.loop-session.session _ _ within c.index-items-session.is c.text_of-text.ensures in
    record {
      checked = joined_more-passed c.loop-session.session (checks_of numeric plan c.args.party texts) c.loop-session.invariant.checked
          (ap (λ t. first_fault (session_checks numeric plan c.args.party c.loop-session.session t)) (sym text) ∙ c.in_ok-words.ensures.passed.0);
      read = pushed _ _ c.in_ok-words.words c.in_ok-push.ensures.items
          ∙ listed_push c.loop-session.session (given_of numeric plan c.args.party texts) _ _ c.loop-session.invariant.read
          (c.in_ok-words.ensures.passed.1 ∙ ap (session_given numeric plan c.args.party c.loop-session.session) text);
    }

pub returns-clause-passed : goal.returns-clause-passed
returns-clause-passed c =
    let texts = map text_of (map view c.args.items.now) in
    let all : c.loop-session.session ≡ length c.args.plan.now.sessions = omega (arith, c.loop-session.auto.session-end) in
    let all_texts : c.loop-session.session ≡ length texts = all ∙ sym c.requires ∙ sym (length-map c.args.items.now view) ∙ sym (length-map (map view c.args.items.now) text_of) in (
      inputs-passed c.args.numeric.now c.args.plan.now c.args.party texts c.loop-session.session all c.loop-session.invariant.checked,
      c.loop-session.invariant.read ∙ ap (λ n. listed n (given_of c.args.numeric.now c.args.plan.now c.args.party texts)) all_texts,
    )
