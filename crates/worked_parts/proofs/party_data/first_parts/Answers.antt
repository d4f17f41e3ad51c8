use Rattle.std.proofs.Common.{◌≡◌, ◌<◌, ◌++◌, [], ◌∷◌, List, ℕ, All, length, map, sym, ap, ap₂, ◌∙◌, subst, arith}
use Rattle.std.specs.Global.{Vec}
use Rattle.std.proofs.lemmas.List.{append-nil, map_push, nil_from_length}
use Rattle.std.proofs.lemmas.List.Elements.{All-head, All-tail}
use Rattle.plan_model.specs.InputWords.{input_words, session_words}
use Rattle.job_run.proofs.Moves.{one_more, first_is}
use Rattle.worked_parts.proofs.FirstParts.{first, inputs_of, tapes_of}
use Rattle.worked_parts.proofs.party_data.first_parts.Goals as goal

abbrev Some : List (List ℕ) → Type 0
Some tapes = 0 < length tapes

pub loop-party_data-init : goal.loop-party_data-init
loop-party_data-init c =
    let gives = c.into_iter-party_data-iterator.ensures.into_iter_gives.0 in
    record {
      some = subst (λ rest. All Some (tapes_of rest)) (sym gives) c.requires;
      inputs = ap₂ (λ taken rest. input_words taken ++ inputs_of rest) c.new-inputs.ensures.items gives;
      pieces = ap₂ (λ taken rest. taken ++ map first (tapes_of rest)) c.new-pieces.ensures.items gives;
    }

pub remove-requires : goal.remove-requires
remove-requires c =
    let some = subst (λ rest. All Some (tapes_of rest)) c.in-Some.ensures.steps.0 c.loop-party_data.invariant.some in
    omega (arith, All-head Some _ _ some, c.in-Some.party_data.tapes.ok.0)

pub loop-party_data-preserved : goal.loop-party_data-preserved
loop-party_data-preserved c =
    let h = c.loop-party_data.invariant in
    let z = c.in-Some.ensures.steps.0 in
    let party_data = c.in-Some.party_data in
    let tapes = party_data.tapes.items in
    let rest = c.next.new.self.rest.items in
    let some : All Some (tapes ∷ tapes_of rest) = subst (λ rest. All Some (tapes_of rest)) z h.some in
    let head : c.remove.result ≡ first tapes = first_is tapes c.remove.result (All-head Some tapes (tapes_of rest) some) c.remove.ensures.value in
    record {
      some = All-tail Some tapes (tapes_of rest) some;
      inputs =
          one_more (input_words c.loop-party_data.inputs.items) (inputs_of rest) _ (session_words party_data.inputs.items) _
          (ap (λ rest. input_words c.loop-party_data.inputs.items ++ inputs_of rest) (sym z) ∙ h.inputs)
          (ap input_words c.in_ok-push.ensures.items ∙ map_push (λ (sessions : Vec (Vec ℕ)). session_words sessions.items) c.loop-party_data.inputs.items party_data.inputs);
      pieces =
          one_more c.loop-party_data.pieces.items (map first (tapes_of rest)) _ (first tapes) _
          (ap (λ rest. c.loop-party_data.pieces.items ++ map first (tapes_of rest)) (sym z) ∙ h.pieces)
          (c.in_ok-push-2.ensures.items ∙ ap (λ x. c.loop-party_data.pieces.items ++ x ∷ []) head);
    }

pub returns-clause-inputs : goal.returns-clause-inputs
returns-clause-inputs c =
    let it = c.loop-party_data.party_data-iterator.rest in
    let none : it.items ≡ [] = nil_from_length it.items (omega (arith, it.ok.0, c.in-None.ensures.steps.0)) in
    sym (append-nil (input_words c.loop-party_data.inputs.items)) ∙ ap (λ rest. input_words c.loop-party_data.inputs.items ++ inputs_of rest) (sym none) ∙ c.loop-party_data.invariant.inputs

pub returns-clause-pieces : goal.returns-clause-pieces
returns-clause-pieces c =
    let it = c.loop-party_data.party_data-iterator.rest in
    let none : it.items ≡ [] = nil_from_length it.items (omega (arith, it.ok.0, c.in-None.ensures.steps.0)) in
    sym (append-nil c.loop-party_data.pieces.items) ∙ ap (λ rest. c.loop-party_data.pieces.items ++ map first (tapes_of rest)) (sym none) ∙ c.loop-party_data.invariant.pieces
