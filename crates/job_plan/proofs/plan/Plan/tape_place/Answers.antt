use Rattle.std.proofs.Common.{◌≡◌, ℕ, ◌+◌, ◌-◌, ◌*◌, ◌<◌, ◌≤◌, length, ap, ◌∙◌, arith}
use Rattle.plan_model.specs.Plans.{Plan, place}
use Rattle.plan_model.specs.Numbers.{deal_place, deal_slot}
use Rattle.plan_model.specs.Sound.{IsSound}
use Rattle.plan_model.proofs.TapePlaces.{few_places}
use Rattle.plan_model.proofs.DealSlots.{slot_within, slot_of_deal}
use Rattle.plan_model.proofs.DealMasks.{deal_place_is}
use Rattle.job_plan.proofs.plan.Plan.tape_place.Goals as goal

few_words : (plan : Plan) (p s d : ℕ) → IsSound plan → p < plan.parties → s < length plan.sessions → deal_place plan p s d ≤ 1048576
few_words plan p s d sound lp ls = few_places plan p s (deal_slot plan p s d) sound lp ls (slot_within plan p s d)

pub overflow_add-result : goal.overflow_add-result
overflow_add-result c =
    let few = few_words c.args.self.now c.args.p c.args.s c.args.deal c.tape_start.ensures.sound c.requires.party c.requires.session in
    omega (arith, c.tape_start.ensures.is, c.mask_words.ensures, deal_place_is c.args.self.now c.args.p c.args.s c.args.deal c.requires.deal, few)

pub overflow_mul-result : goal.overflow_mul-result
overflow_mul-result c =
    let each = ap (λ n. (n - 1) * c.args.deal) c.shares.ensures.is in
    let few = few_words c.args.self.now c.args.p c.args.s c.args.deal c.tape_start.ensures.sound c.requires.party c.requires.session in
    omega (arith, each, deal_place_is c.args.self.now c.args.p c.args.s c.args.deal c.requires.deal, few)

pub overflow_add-result-2 : goal.overflow_add-result-2
overflow_add-result-2 c =
    let each = ap (λ n. (n - 1) * c.args.deal) c.shares.ensures.is in
    let few = few_words c.args.self.now c.args.p c.args.s c.args.deal c.tape_start.ensures.sound c.requires.party c.requires.session in
    omega (arith, each, c.tape_start.ensures.is, c.mask_words.ensures, deal_place_is c.args.self.now c.args.p c.args.s c.args.deal c.requires.deal, few)

pub returns : goal.returns
returns c =
    let plan = c.args.self.now in
    let each = ap (λ n. (n - 1) * c.args.deal) c.shares.ensures.is in
    let is : c.tape_start.result + c.mask_words.result + (c.shares.result - 1) * c.args.deal ≡ deal_place plan c.args.p c.args.s c.args.deal =
    omega (arith, each, c.tape_start.ensures.is, c.mask_words.ensures, deal_place_is plan c.args.p c.args.s c.args.deal c.requires.deal) in
    record {
      is = is;
      in_slot = λ k lk dealing e. is ∙ ap (deal_place plan c.args.p c.args.s) e ∙ ap (place plan c.args.p c.args.s) (slot_of_deal plan c.args.p c.args.s k lk dealing);
    }
