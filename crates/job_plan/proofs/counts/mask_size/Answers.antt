use Rattle.std.proofs.Common.{◌≡◌, length, ap, ◌∙◌, arith}
use Rattle.list_laws.specs.Lists.{joined}
use Rattle.plan_model.specs.Plans.{holder_of}
use Rattle.plan_model.specs.Messages.{deal_message}
use Rattle.plan_model.proofs.TallyLaws.{count_step}
use Rattle.job_plan.proofs.counts.mask_size.Goals as goal

pub loop-i-preserved : goal.loop-i-preserved
loop-i-preserved c =
    let plan = c.args.outline.now in
    let i = c.loop-i.i in
    record {
      is = λ s k.
          let here = c.receivers-count.ensures.is s k ∙ ap (λ p. length (joined plan.parties (deal_message plan s k p i))) c.least_holder.ensures.is in
          count_step i (λ i. joined plan.parties (deal_message plan s k (holder_of plan i) i)) c.loop-i.count c.receivers-count.result (c.loop-i.invariant.is s k) here;
      few = omega arith;
    }

pub returns-clause-is : goal.returns-clause-is
returns-clause-is c = λ s k.
    let plan = c.args.outline.now in
    let ended : c.loop-i.i ≡ length plan.groups = omega arith in
    c.loop-i.invariant.is s k ∙ ap (λ n. length (joined n (λ i. joined plan.parties (deal_message plan s k (holder_of plan i) i)))) ended
