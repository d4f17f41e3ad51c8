use Rattle.std.proofs.Common.{sym, ap, ◌∙◌, arith}
use Rattle.session_slots.specs.Sessions.{Session}
use Rattle.plan_model.specs.Plans.{Plan, least_held}
use Rattle.plan_model.proofs.MaskPlaces.{mask_place, mask_place_ahead}
use Rattle.plan_model.proofs.TapePlaces.{few_places}
use Rattle.job_plan.proofs.plan.Plan.mask_place.Goals as goal

pub overflow_mul-result : goal.overflow_mul-result
overflow_mul-result c =
    let plan = c.args.self.now in
    let p = c.args.p in
    let masks = c.least_held-held.ensures.is ∙ ap (λ (plan : Plan). least_held plan p c.shares.result) c.self.view_is ∙ ap (least_held plan p) c.shares.ensures.is in
    let told = c.is_ahead.ensures ∙ ap (λ (x : Session). x.ahead) c.part.ensures in
    let at = mask_place_ahead plan p c.args.s c.args.k c.least_held-held.result (sym told ∙ c.if-is_ahead.true) c.requires.slot c.requires.mask masks in
    let few = few_places plan p c.args.s c.args.k c.shares.ensures.sound c.requires.party c.requires.session (omega (arith, c.requires.slot)) in
    omega (arith, at, few, c.tape_start.ensures.is)

pub overflow_add-result : goal.overflow_add-result
overflow_add-result c =
    let plan = c.args.self.now in
    let p = c.args.p in
    let masks = c.least_held-held.ensures.is ∙ ap (λ (plan : Plan). least_held plan p c.shares.result) c.self.view_is ∙ ap (least_held plan p) c.shares.ensures.is in
    let told = c.is_ahead.ensures ∙ ap (λ (x : Session). x.ahead) c.part.ensures in
    let at = mask_place_ahead plan p c.args.s c.args.k c.least_held-held.result (sym told ∙ c.if-is_ahead.true) c.requires.slot c.requires.mask masks in
    let few = few_places plan p c.args.s c.args.k c.shares.ensures.sound c.requires.party c.requires.session (omega (arith, c.requires.slot)) in
    omega (arith, at, few, c.tape_start.ensures.is)

pub returns-then-is_ahead-clause-is : goal.returns-then-is_ahead-clause-is
returns-then-is_ahead-clause-is c =
    let plan = c.args.self.now in
    let p = c.args.p in
    let masks = c.least_held-held.ensures.is ∙ ap (λ (plan : Plan). least_held plan p c.shares.result) c.self.view_is ∙ ap (least_held plan p) c.shares.ensures.is in
    let told = c.is_ahead.ensures ∙ ap (λ (x : Session). x.ahead) c.part.ensures in
    let at = mask_place_ahead plan p c.args.s c.args.k c.least_held-held.result (sym told ∙ c.if-is_ahead.true) c.requires.slot c.requires.mask masks in
    omega (arith, at, c.tape_start.ensures.is)

pub overflow_mul-result-2 : goal.overflow_mul-result-2
overflow_mul-result-2 c =
    let plan = c.args.self.now in
    let p = c.args.p in
    let masks = c.least_held-held.ensures.is ∙ ap (λ (plan : Plan). least_held plan p c.shares.result) c.self.view_is ∙ ap (least_held plan p) c.shares.ensures.is in
    let told = c.is_ahead.ensures ∙ ap (λ (x : Session). x.ahead) c.part.ensures in
    let at = mask_place plan p c.args.s c.args.k c.least_held-held.result c.product_words.result (sym told ∙ c.if-is_ahead.false) c.requires.slot c.requires.mask masks c.product_words.ensures in
    let few = few_places plan p c.args.s c.args.k c.shares.ensures.sound c.requires.party c.requires.session (omega (arith, c.requires.slot)) in
    omega (arith, at, few, c.tape_start-2.ensures.is)

pub overflow_add-result-2 : goal.overflow_add-result-2
overflow_add-result-2 c =
    let plan = c.args.self.now in
    let p = c.args.p in
    let masks = c.least_held-held.ensures.is ∙ ap (λ (plan : Plan). least_held plan p c.shares.result) c.self.view_is ∙ ap (least_held plan p) c.shares.ensures.is in
    let told = c.is_ahead.ensures ∙ ap (λ (x : Session). x.ahead) c.part.ensures in
    let at = mask_place plan p c.args.s c.args.k c.least_held-held.result c.product_words.result (sym told ∙ c.if-is_ahead.false) c.requires.slot c.requires.mask masks c.product_words.ensures in
    let few = few_places plan p c.args.s c.args.k c.shares.ensures.sound c.requires.party c.requires.session (omega (arith, c.requires.slot)) in
    omega (arith, at, few, c.tape_start-2.ensures.is)

pub overflow_add-result-3 : goal.overflow_add-result-3
overflow_add-result-3 c =
    let plan = c.args.self.now in
    let p = c.args.p in
    let masks = c.least_held-held.ensures.is ∙ ap (λ (plan : Plan). least_held plan p c.shares.result) c.self.view_is ∙ ap (least_held plan p) c.shares.ensures.is in
    let told = c.is_ahead.ensures ∙ ap (λ (x : Session). x.ahead) c.part.ensures in
    let at = mask_place plan p c.args.s c.args.k c.least_held-held.result c.product_words.result (sym told ∙ c.if-is_ahead.false) c.requires.slot c.requires.mask masks c.product_words.ensures in
    let few = few_places plan p c.args.s c.args.k c.shares.ensures.sound c.requires.party c.requires.session (omega (arith, c.requires.slot)) in
    omega (arith, at, few, c.tape_start-2.ensures.is)

pub returns-clause-is : goal.returns-clause-is
returns-clause-is c =
    let plan = c.args.self.now in
    let p = c.args.p in
    let masks = c.least_held-held.ensures.is ∙ ap (λ (plan : Plan). least_held plan p c.shares.result) c.self.view_is ∙ ap (least_held plan p) c.shares.ensures.is in
    let told = c.is_ahead.ensures ∙ ap (λ (x : Session). x.ahead) c.part.ensures in
    let at = mask_place plan p c.args.s c.args.k c.least_held-held.result c.product_words.result (sym told ∙ c.if-is_ahead.false) c.requires.slot c.requires.mask masks c.product_words.ensures in
    omega (arith, at, c.tape_start-2.ensures.is)
