use Rattle.std.proofs.Common.{[], ◌∷◌, ap, ◌∙◌}
use Rattle.list_laws.specs.Lists.{only_if}
use Rattle.list_laws.proofs.JoinedLists.{joined_step}
use Rattle.plan_model.specs.declared.pattern.Transfer.{Transfer}
use Rattle.plan_model.specs.Patterns.{deal_transfer}
use Rattle.job_plan.proofs.pattern_transfers.push_summand.Goals as goal

pub loop-receiver-preserved : goal.loop-receiver-preserved
loop-receiver-preserved c =
    let receiver = c.loop-receiver.receiver in
    let row = deal_transfer c.args.outline.now c.args.p c.args.share in
    let transfer : Transfer = record { share = c.args.share; sender = c.args.p; receiver = receiver } in
    c.in_ok-push_if.ensures
    ∙ joined_step receiver row c.args.transfers.now c.loop-receiver.transfers (only_if c.sends.result (transfer ∷ [])) c.loop-receiver.invariant (ap (λ b. only_if b (transfer ∷ [])) c.sends.ensures)
