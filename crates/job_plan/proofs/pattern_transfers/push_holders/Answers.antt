use Rattle.std.proofs.Common.{[], ◌∷◌, ap, ◌∙◌}
use Rattle.list_laws.specs.Lists.{only_if}
use Rattle.list_laws.proofs.JoinedLists.{joined_step}
use Rattle.plan_model.specs.declared.pattern.Transfer.{Transfer}
use Rattle.plan_model.specs.Patterns.{held_transfer}
use Rattle.job_plan.proofs.pattern_transfers.push_holders.Goals as goal

pub loop-p-preserved : goal.loop-p-preserved
loop-p-preserved c =
    let p = c.loop-p.p in
    let row = held_transfer c.args.outline.now c.args.share in
    let transfer : Transfer = record { share = c.args.share; sender = p; receiver = p } in
    c.in_ok-push_if.ensures
    ∙ joined_step p row c.args.transfers.now c.loop-p.transfers (only_if c.holds.result (transfer ∷ [])) c.loop-p.invariant (ap (λ b. only_if b (transfer ∷ [])) c.holds.ensures)
