use Rattle.std.proofs.Common.{◌*◌, ap₂, sym, ◌∙◌}
use Rattle.plan_model.proofs.KeepingPlans.{keeping_messages_are}
use Rattle.job_plan.proofs.counts.kept_message_count.Goals as goal

pub returns-clause-is : goal.returns-clause-is
returns-clause-is c =
    let plan = c.args.outline.now in
    ap₂ (λ a b. a * b) (c.from.ensures ∙ c.kept_size.ensures.is 0 0) c.all_carried.ensures.is ∙ sym (keeping_messages_are plan c.parties.ensures.outline.fit)
