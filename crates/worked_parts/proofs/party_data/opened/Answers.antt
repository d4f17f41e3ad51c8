use Rattle.std.proofs.Common.{ap, sym, subst, refl, ◌∙◌, arith}
use Rattle.plan_model.specs.InputWords.{AreInputs}
use Rattle.desk_laws.specs.Pieces.{ArePieces}
use Rattle.core_world.specs.Moments.{IsRunOfPlan}
use Rattle.job_run.specs.Pieces.{pieces_in}
use Rattle.job_run.proofs.Worlds.{are_inputs, are_pieces, sessions_each}
use Rattle.worked_parts.proofs.FirstParts.{tapes_of, ok_then}
use Rattle.worked_parts.proofs.party_data.opened.Goals as goal

pub first_parts-requires : goal.first_parts-requires
first_parts-requires c =
    let each = sessions_each c.args.plan.now c.args.all_data.items c.requires.count c.requires.fit in
    λ p d l. omega (arith, c.requires.sessions, each p d l)

pub make-inputs-requires : goal.make-inputs-requires
make-inputs-requires c = subst (AreInputs c.args.plan.now) (sym c.in_ok-inputs.ensures.inputs) (are_inputs c.args.plan.now c.args.all_data.items c.requires.count c.requires.fit)

pub open-requires-clause-inputs : goal.open-requires-clause-inputs
open-requires-clause-inputs c =
    subst (AreInputs c.args.plan.now) (sym (c.make-inputs.ensures ∙ c.in_ok-inputs.ensures.inputs)) (are_inputs c.args.plan.now c.args.all_data.items c.requires.count c.requires.fit)

pub open-requires-clause-pieces : goal.open-requires-clause-pieces
open-requires-clause-pieces c =
    let pieces = c.in_ok-inputs.ensures.pieces ∙ ap (λ n. pieces_in n (tapes_of c.args.all_data.items)) (sym c.requires.sessions) in
    subst (ArePieces c.args.plan.now) (sym pieces) (are_pieces c.args.plan.now c.args.all_data.items c.requires.count c.requires.fit)

pub returns : goal.returns
returns c = ok_then c.open.result _ (IsRunOfPlan c.args.plan.now) (λ r start. (_, refl, c.open.ensures.whole, start.run)) c.open.ensures.start
