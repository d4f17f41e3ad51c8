use Rattle.std.proofs.Common.{◌≡◌, ap₂, sym, subst, ◌∙◌, length, List, ℕ, All}
use Rattle.std.specs.Prelude.{IfOk}
use Rattle.plan_model.specs.InputWords.{AreInputs}
use Rattle.desk_laws.specs.Pieces.{ArePieces, world_of_pieces}
use Rattle.desk_workers.specs.Runs.{IsReady}
use Rattle.job_run.specs.Pieces.{pieces_in, tape_words}
use Rattle.job_run.proofs.Worlds.{are_inputs, are_pieces, sessions_each, world_same}
use Rattle.job_run.proofs.ready.prepared.Goals as goal

pub in_order-requires : goal.in_order-requires
in_order-requires c =
    let each = sessions_each c.args.plan.now c.args.parties.items c.requires.count c.requires.fit in
    subst (λ n. All (λ (pieces : List (List ℕ)). length pieces ≡ n) (tape_words c.in_ok-inputs.field-0.tapes.items)) (sym c.sessions.ensures)
    (subst (All (λ (pieces : List (List ℕ)). length pieces ≡ length c.args.plan.now.sessions)) (sym c.in_ok-inputs.ensures.tapes) each)

pub make-inputs-requires : goal.make-inputs-requires
make-inputs-requires c = subst (AreInputs c.args.plan.now) (sym c.in_ok-inputs.ensures.inputs) (are_inputs c.args.plan.now c.args.parties.items c.requires.count c.requires.fit)

pub prepare-requires-clause-inputs : goal.prepare-requires-clause-inputs
prepare-requires-clause-inputs c =
    subst (AreInputs c.args.plan.now) (sym (c.make-inputs.ensures ∙ c.in_ok-inputs.ensures.inputs)) (are_inputs c.args.plan.now c.args.parties.items c.requires.count c.requires.fit)

pub prepare-requires-clause-pieces : goal.prepare-requires-clause-pieces
prepare-requires-clause-pieces c =
    let pieces = c.in_ok-pieces.ensures ∙ ap₂ pieces_in c.sessions.ensures c.in_ok-inputs.ensures.tapes in
    subst (ArePieces c.args.plan.now) (sym pieces) (are_pieces c.args.plan.now c.args.parties.items c.requires.count c.requires.fit)

pub returns-clause-ready : goal.returns-clause-ready
returns-clause-ready c =
    let inputs = c.make-inputs.ensures ∙ c.in_ok-inputs.ensures.inputs in
    let pieces = c.in_ok-pieces.ensures ∙ ap₂ pieces_in c.sessions.ensures c.in_ok-inputs.ensures.tapes in
    let same = ap₂ (world_of_pieces c.args.plan.now) inputs pieces ∙ world_same c.args.plan.now c.args.parties.items c.requires.count c.requires.fit in
    subst (λ w. IfOk c.prepare.result (IsReady w)) same c.prepare.ensures.ready
