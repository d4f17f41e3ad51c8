use Rattle.std.proofs.Common.{◌≡◌, length, ap, ◌∙◌, arith}
use Rattle.list_laws.specs.Lists.{joined}
use Rattle.plan_model.specs.Messages.{kept_message}
use Rattle.plan_model.proofs.TallyLaws.{count_step}
use Rattle.job_plan.proofs.counts.kept_size.Goals as goal

pub loop-i-preserved : goal.loop-i-preserved
loop-i-preserved c =
    let outline = c.args.outline.now in
    record {
      is = λ s k. count_step c.loop-i.i (λ i. joined outline.parties (kept_message outline s k i)) c.loop-i.count c.holders-count.result (c.loop-i.invariant.is s k) (c.holders-count.ensures.is s k);
      few = omega arith;
    }

pub returns-clause-is : goal.returns-clause-is
returns-clause-is c = λ s k.
    let outline = c.args.outline.now in
    let ended : c.loop-i.i ≡ length outline.groups = omega arith in
    c.loop-i.invariant.is s k ∙ ap (λ n. length (joined n (λ i. joined outline.parties (kept_message outline s k i)))) ended
