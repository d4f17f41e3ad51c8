use Rattle.std.proofs.Common.{◌≡◌, ◌+◌, ◌-◌, ◌*◌, length, ap, ap₂, sym, ◌∙◌, arith}
use Rattle.plan_model.specs.Plans.{least_held}
use Rattle.plan_model.proofs.TallyLaws.{words_are}
use Rattle.job_plan.proofs.counts.session_words.Goals as goal

pub returns-clause-is : goal.returns-clause-is
returns-clause-is c =
    let plan = c.args.outline.now in
    let each : c.shares.result - 1 ≡ length plan.groups - 1 = omega (arith, c.shares.ensures.is) in
    let held = c.least_held-held.ensures.is ∙ ap (least_held plan c.args.p) c.shares-2.ensures.is in
    ap₂ (λ a b. a + b) (ap₂ (λ a b. a * b) each c.deal_count.ensures.is) (ap₂ (λ a b. a * (2 * b)) held c.prepared_products.ensures.is)
    ∙ sym (words_are plan c.args.p c.args.s)
