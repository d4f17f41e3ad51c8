use Rattle.worked_parts.proofs.ProductPlans.{own_ring}
use Rattle.worked_parts.proofs.schedules.each_step_of_a_schedule.Goals as goal

pub expect_product-requires : goal.expect_product-requires
expect_product-requires g c =
    let r = c.expect_steps.ensures in
    (r.0, own_ring r.0.plan c.in_ok-plan.plan _ r.1 c.in_ok-plan.ensures, (c.finish.ensures r.0 r.1 r.2 r.3).moment.run)
