use Rattle.std.proofs.Common.{◌≡◌, ◌+◌, Bool, if◌then◌else◌, ap, ap₂, sym, ◌∙◌}
use Rattle.std.proofs.lemmas.Bool.{cond-true, cond-false}
use Rattle.secret_sharing.specs.Schemes.{has_pair}
use Rattle.plan_model.specs.Plans.{session, scheme}
use Rattle.session_slots.specs.Counts.{products, owned}
use Rattle.plan_model.proofs.TallyLaws.{deals_is}
use Rattle.job_plan.proofs.counts.deal_count.Goals as goal
use Rattle.job_plan.proofs.counts.deal_count.Goals.{then-multiplies, else-multiplies}

pub returns-clause-is : goal.returns-clause-is
returns-clause-is c =
    let plan = c.args.outline.now in
    let part = c.part-part.ensures.is in
    let pair : Bool = has_pair (scheme plan) c.args.p in
    let dealt : c.if-multiplies.products ≡ (if pair then products (session plan c.args.s) else 0) = elim c.if-multiplies.branch [
      | then-multiplies w ↦ w.products-is ∙ w.products-products.ensures ∙ ap products part ∙ sym (cond-true pair (products (session plan c.args.s)) 0 (sym c.multiplies.ensures ∙ w.if-multiplies.true))
      | else-multiplies w ↦ w.products-is ∙ sym (cond-false pair (products (session plan c.args.s)) 0 (sym c.multiplies.ensures ∙ w.if-multiplies.false))
    ] in
    ap₂ (λ a b. a + b) (c.owned.ensures ∙ ap (λ part. owned part c.args.p) part) dealt ∙ sym (deals_is plan c.args.p c.args.s)
