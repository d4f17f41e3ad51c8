use Rattle.std.proofs.Common.{◌≡◌, length, ap, ◌∙◌, arith}
use Rattle.std.specs.Int.{from_bool}
use Rattle.plan_model.specs.Messages.{deal_message}
use Rattle.plan_model.proofs.TallyLaws.{count_step, length_one, at_most_one}
use Rattle.job_plan.proofs.counts.receivers.Goals as goal

pub loop-q-preserved : goal.loop-q-preserved
loop-q-preserved c =
    let outline = c.args.outline.now in
    record {
      is = λ s k.
          let here : c.from-count.result ≡ length (deal_message outline s k c.args.p c.args.i c.loop-q.q) = c.from-count.ensures ∙ ap from_bool c.sends.ensures ∙ length_one _ _ in
          count_step c.loop-q.q (deal_message outline s k c.args.p c.args.i) c.loop-q.count c.from-count.result (c.loop-q.invariant.is s k) here;
      few = omega (arith, c.from-count.ensures, at_most_one c.sends.result);
    }
