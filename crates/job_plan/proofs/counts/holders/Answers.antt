use Rattle.std.proofs.Common.{◌≡◌, length, ap, ◌∙◌, arith}
use Rattle.std.specs.Int.{from_bool}
use Rattle.plan_model.specs.Messages.{kept_message}
use Rattle.plan_model.proofs.TallyLaws.{count_step, length_one, at_most_one}
use Rattle.job_plan.proofs.counts.holders.Goals as goal

pub loop-p-preserved : goal.loop-p-preserved
loop-p-preserved c =
    let outline = c.args.outline.now in
    record {
      is = λ s k.
          let here : c.from-count.result ≡ length (kept_message outline s k c.args.i c.loop-p.p) = c.from-count.ensures ∙ ap from_bool c.holds.ensures ∙ length_one _ _ in
          count_step c.loop-p.p (kept_message outline s k c.args.i) c.loop-p.count c.from-count.result (c.loop-p.invariant.is s k) here;
      few = omega (arith, c.from-count.ensures, at_most_one c.holds.result);
    }
