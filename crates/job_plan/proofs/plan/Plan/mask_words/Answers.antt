use Rattle.std.proofs.Common.{◌≡◌, ◌*◌, ◌≤◌, length, sym, ap, ap₂, ◌∙◌, inl, inr, arith}
use Rattle.std.proofs.lemmas.Bool.{cases_Bool}
use Rattle.secret_sharing.specs.Schemes.{has_pair}
use Rattle.session_slots.specs.Counts.{prepared_products}
use Rattle.session_slots.specs.Sessions.{Session}
use Rattle.plan_model.specs.Plans.{Plan, session, scheme, least_held}
use Rattle.plan_model.specs.Numbers.{deal_slot, masks_before}
use Rattle.plan_model.proofs.SlotSums.{one}
use Rattle.plan_model.proofs.DealMasks.{all_ahead, early, late}
use Rattle.job_plan.proofs.plan.Plan.mask_words.Goals as goal
use Rattle.job_plan.proofs.plan.Plan.mask_words.Goals.{then-multiplies+then-deal-products, else-multiplies, else-multiplies-via-then-multiplies+else-deal-products, else-multiplies-via-else-multiplies}

pub returns-then-products-eq0 : goal.returns-then-products-eq0
returns-then-products-eq0 c =
    let plan = c.args.self.now in
    let none : prepared_products (session plan c.args.s) ≡ 0 = sym (ap (λ (plan : Plan). prepared_products (session plan c.args.s)) c.self.view_is) ∙ sym c.prepared_products-products.ensures.is ∙ c.if-products-eq0.true in
    let masks : masks_before plan c.args.s (deal_slot plan c.args.p c.args.s c.args.deal) ≡ 2 * prepared_products (session plan c.args.s) = elim (cases_Bool (session plan c.args.s).ahead) [
      | inl first ↦ all_ahead plan c.args.p c.args.s first c.args.deal
      | inr turns ↦ late plan c.args.p c.args.s turns c.args.deal (omega (arith, ap (λ n. n * one (has_pair (scheme plan) c.args.p)) none))
    ] in
    let no_masks : masks_before plan c.args.s (deal_slot plan c.args.p c.args.s c.args.deal) ≡ 0 = omega (arith, masks, none) in
    omega (arith, ap (λ n. least_held plan c.args.p (length plan.groups) * n) no_masks)

pub returns-then-is_ahead : goal.returns-then-is_ahead
returns-then-is_ahead c =
    let plan = c.args.self.now in
    let p = c.args.p in
    let s = c.args.s in
    let told = c.is_ahead.ensures ∙ ap (λ (x : Session). x.ahead) c.part.ensures in
    let counted : c.prepared_products-products.result ≡ prepared_products (session plan s) = c.prepared_products-products.ensures.is ∙ ap (λ (plan : Plan). prepared_products (session plan s)) c.self.view_is in
    let held = c.least_held.ensures.is ∙ ap (λ (plan : Plan). least_held plan p c.shares.result) c.self.view_is ∙ ap (least_held plan p) c.shares.ensures.is in
    let masks = all_ahead plan p s (sym told ∙ c.if-is_ahead.true) c.args.deal ∙ ap (λ n. 2 * n) (sym counted) in
    ap₂ (λ a b. a * b) held (sym masks)

pub returns : goal.returns
returns c =
    let plan = c.args.self.now in
    let p = c.args.p in
    let s = c.args.s in
    let told = c.is_ahead.ensures ∙ ap (λ (x : Session). x.ahead) c.part.ensures in
    let turns = sym told ∙ c.if-is_ahead.false in
    let counted : c.prepared_products-products.result ≡ prepared_products (session plan s) = c.prepared_products-products.ensures.is ∙ ap (λ (plan : Plan). prepared_products (session plan s)) c.self.view_is in
    let held = c.least_held-2.ensures.is ∙ ap (λ (plan : Plan). least_held plan p c.shares-2.result) c.self.view_is ∙ ap (least_held plan p) c.shares-2.ensures.is in
    let masks : masks_before plan s (deal_slot plan p s c.args.deal) ≡ 2 * c.if-multiplies.behind = elim c.if-multiplies.branch [
      | then-multiplies+then-deal-products w ↦
          early plan p s turns c.args.deal (sym c.multiplies.ensures ∙ w.if-multiplies.true) (omega (arith, w.if-deal-products.true, counted)) ∙ ap (λ n. 2 * n) (sym w.behind-is)
      | else-multiplies w ↦
          let enough : prepared_products (session plan s) * one c.multiplies.result ≤ c.args.deal = elim w.else-multiplies.branch [
            | else-multiplies-via-then-multiplies+else-deal-products w' ↦ omega (arith, w'.if-deal-products.false, counted, ap (λ b. prepared_products (session plan s) * one b) w'.if-multiplies.true)
            | else-multiplies-via-else-multiplies w' ↦ omega (arith, ap (λ b. prepared_products (session plan s) * one b) w'.if-multiplies.false)
          ] in
          late plan p s turns c.args.deal (omega (arith, enough, ap (λ b. prepared_products (session plan s) * one b) c.multiplies.ensures)) ∙ ap (λ n. 2 * n) (sym (w.behind-is ∙ counted))
    ] in
    ap₂ (λ a b. a * b) held (sym masks)
