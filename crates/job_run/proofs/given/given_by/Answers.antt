use Rattle.std.proofs.Common.{◌≡◌, ◌++◌, [], List, ℕ, map, sym, ap, ap₂, ◌∙◌, arith}
use Rattle.std.specs.Global.{Vec}
use Rattle.std.proofs.lemmas.List.{append-nil, map_push, nil_from_length}
use Rattle.plan_model.specs.InputWords.{input_words, session_words}
use Rattle.party_file.specs.Table.{PartyForm}
use Rattle.party_file.specs.Forms.{form_of}
use Rattle.party_file.specs.declared.data.PartyData.{PartyData}
use Rattle.job_run.specs.Pieces.{tape_words}
use Rattle.job_run.proofs.Moves.{one_more}
use Rattle.job_run.proofs.given.given_by.Goals as goal

abbrev inputs_of : List PartyData → List (List (List ℕ))
inputs_of parties = map (λ (party : PartyForm). party.inputs) (map form_of parties)

abbrev tapes_of : List PartyData → List (List (List ℕ))
tapes_of parties = map (λ (party : PartyForm). party.tapes) (map form_of parties)

pub loop-party-init : goal.loop-party-init
loop-party-init c =
    let gives = c.into_iter-party-iterator.ensures.into_iter_gives.0 in
    record {
      inputs = ap₂ (λ taken rest. input_words taken ++ inputs_of rest) c.new-inputs.ensures.items gives;
      tapes = ap₂ (λ taken rest. tape_words taken ++ tapes_of rest) c.new-tapes.ensures.items gives;
    }

pub loop-party-preserved : goal.loop-party-preserved
loop-party-preserved c =
    let h = c.loop-party.invariant in
    let z = c.in-Some.ensures.steps.0 in
    let party = c.in-Some.party in
    let rest = c.next.new.self.rest.items in
    record {
      inputs =
          one_more (input_words c.loop-party.inputs.items) (inputs_of rest) _ (session_words party.inputs.items) _
          (ap (λ rest. input_words c.loop-party.inputs.items ++ inputs_of rest) (sym z) ∙ h.inputs)
          (ap input_words c.in_ok-push.ensures.items ∙ map_push (λ (sessions : Vec (Vec ℕ)). session_words sessions.items) c.loop-party.inputs.items party.inputs);
      tapes =
          one_more (tape_words c.loop-party.tapes.items) (tapes_of rest) _ party.tapes.items _
          (ap (λ rest. tape_words c.loop-party.tapes.items ++ tapes_of rest) (sym z) ∙ h.tapes)
          (ap tape_words c.in_ok-push-2.ensures.items ∙ map_push (λ (sessions : Vec (List ℕ)). sessions.items) c.loop-party.tapes.items party.tapes);
    }

pub returns-clause-inputs : goal.returns-clause-inputs
returns-clause-inputs c =
    let it = c.loop-party.party-iterator.rest in
    let none : it.items ≡ [] = nil_from_length it.items (omega (arith, it.ok.0, c.in-None.ensures.steps.0)) in
    sym (append-nil (input_words c.loop-party.inputs.items)) ∙ ap (λ rest. input_words c.loop-party.inputs.items ++ inputs_of rest) (sym none) ∙ c.loop-party.invariant.inputs

pub returns-clause-tapes : goal.returns-clause-tapes
returns-clause-tapes c =
    let it = c.loop-party.party-iterator.rest in
    let none : it.items ≡ [] = nil_from_length it.items (omega (arith, it.ok.0, c.in-None.ensures.steps.0)) in
    sym (append-nil (tape_words c.loop-party.tapes.items)) ∙ ap (λ rest. tape_words c.loop-party.tapes.items ++ tapes_of rest) (sym none) ∙ c.loop-party.invariant.tapes
