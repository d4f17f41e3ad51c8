use Rattle.std.proofs.Common.{◌∙◌}
use Rattle.plan_model.specs.declared.pattern.Pattern.TheVariants.{Dealt}
use Rattle.plan_model.proofs.GrownLists.{listed_push}
use Rattle.party_program.specs.PartySteps.{steps}
use Rattle.party_program.proofs.step_table.deals_of_each.Goals as goal

pub loop-dealer-preserved : goal.loop-dealer-preserved
loop-dealer-preserved c =
    c.in_ok-push.ensures.items
    ∙ listed_push c.loop-dealer.dealer (λ q. steps c.args.plan.now c.args.p c.args.half (Dealt q)) c.loop-dealer.list.items _ c.loop-dealer.invariant c.in_ok-list_steps.ensures
