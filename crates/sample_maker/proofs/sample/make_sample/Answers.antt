use Rattle.std.proofs.Common.{◌≡◌, sym, ap, ◌∙◌, subst}
use Rattle.list_laws.specs.Lists.{listed}
use Rattle.plan_model.specs.InputWords.{AreInputs}
use Rattle.plan_model.specs.Plans.{Plan}
use Rattle.desk_laws.specs.Pieces.{ArePieces}
use Rattle.sample_maker.specs.Samples.{sample_inputs, sample_piece, sample_pieces}
use Rattle.sample_maker.proofs.SampleInputs.{inputs_fit}
use Rattle.sample_maker.proofs.SamplePieces.{pieces_fit}
use Rattle.sample_maker.proofs.sample.make_sample.Goals as goal

pub returns-clause-inputs_fit : goal.returns-clause-inputs_fit
returns-clause-inputs_fit c =
    subst (AreInputs c.in_ok-plan.plan) (sym c.in-Ok.ensures)
    (subst (λ (plan : Plan). AreInputs plan (sample_inputs c.args.count)) (sym c.in_ok-plan.ensures) (inputs_fit c.args.count c.requires.1))

pub returns-clause-pieces_fit : goal.returns-clause-pieces_fit
returns-clause-pieces_fit c =
    let pieces : c.in-Ok-sample_tapes.tapes.items ≡ sample_pieces c.args.count =
    c.in-Ok-sample_tapes.ensures ∙ ap (λ (plan : Plan). listed plan.parties (sample_piece plan)) c.in_ok-plan.ensures in
    subst (ArePieces c.in_ok-plan.plan) (sym pieces)
    (subst (λ (plan : Plan). ArePieces plan (sample_pieces c.args.count)) (sym c.in_ok-plan.ensures) (pieces_fit c.args.count))
