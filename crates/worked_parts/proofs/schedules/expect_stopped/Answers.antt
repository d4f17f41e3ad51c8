use Rattle.std.proofs.Common.{◌<◌, length, sym, subst, arith}
use Rattle.plan_model.specs.Messages.{messages}
use Rattle.worked_parts.proofs.OneProduct.{length-messages}
use Rattle.worked_parts.proofs.schedules.expect_stopped.Goals as goal

pub cell-requires : goal.cell-requires
cell-requires g c =
    let number = c.loop-number.number in
    let inside : c.loop-number.number < 21 = c.loop-number-test.true in
    (c.requires.0, c.requires.2, subst (λ p. number < length (messages p)) (sym c.requires.1) (omega (arith, inside, length-messages c.requires.0.plan.bits)))
