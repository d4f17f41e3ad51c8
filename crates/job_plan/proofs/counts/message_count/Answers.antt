use Rattle.std.proofs.Common.{◌≡◌, ◌+◌, ap, ap₂, sym, ◌∙◌, arith}
use Rattle.list_laws.specs.Lists.{total}
use Rattle.plan_model.specs.Tallies.{party_messages}
use Rattle.plan_model.proofs.KeepingPlans.{keeper_messages}
use Rattle.job_plan.proofs.counts.message_count.Goals as goal

pub returns : goal.returns
returns c =
    let plan = c.args.outline.now in
    let ended : c.loop-p.p ≡ plan.parties = omega arith in
    ap₂ (λ a b. a + b)
    (ap₂ (λ a b. a + b) (c.loop-p.invariant.is ∙ ap (λ n. total n (party_messages plan)) ended) c.mask_message_count.ensures.is)
    c.kept_message_count.ensures.is
    ∙ sym (keeper_messages plan c.parties-p-end.ensures.outline)
