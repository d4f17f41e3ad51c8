use Rattle.std.proofs.Common.{arith}
use Rattle.plan_model.proofs.TapePlaces.{few_places}
use Rattle.job_plan.proofs.plan.Plan.summand_place.Goals as goal

pub overflow_add-result : goal.overflow_add-result
overflow_add-result c =
    let sound = c.mask_place.ensures.sound in
    let few = few_places c.args.self.now c.args.p c.args.s c.args.k sound c.requires.party c.requires.session (omega (arith, c.requires.slot)) in
    omega (arith, few, c.mask_place.ensures.is, c.least_held.ensures.few, sound.groups)
