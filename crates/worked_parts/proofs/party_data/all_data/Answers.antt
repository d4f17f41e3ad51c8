use Rattle.std.proofs.Common.{◌+◌, ◌∷◌, [], length, length-append, ap, ◌∙◌}
use Rattle.job_run.proofs.PartyForms.{fit_push}
use Rattle.worked_parts.proofs.party_data.all_data.Goals as goal

pub loop-p-preserved : goal.loop-p-preserved
loop-p-preserved c = record {
  count = ap length c.in_ok-push.ensures.items ∙ length-append c.loop-p.all_data.items (c.in_ok-party_data.field-0 ∷ []) ∙ ap (λ n. n + 1) c.loop-p.invariant.count;
  fit = fit_push c.args.plan.now c.loop-p.all_data.items _ c.loop-p.p c.in_ok-party_data.field-0 c.in_ok-push.ensures.items c.loop-p.invariant.count c.loop-p.invariant.fit c.in_ok-party_data.ensures;
}
