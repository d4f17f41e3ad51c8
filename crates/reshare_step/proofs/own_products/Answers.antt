use Rattle.std.proofs.Common.{refl, ◌∙◌, arith}
use Rattle.reshare_step.proofs.PairSums.{none_yet, one_more, all_summed}
use Rattle.reshare_step.proofs.own_products.Goals as goal

pub loop-i-init : goal.loop-i-init
loop-i-init c =
    none_yet 64 c.args.duty.now c.args.p c.args.x.now c.args.y.now _ c.requires.first c.requires.second (c.into_iter-i-iterator.ensures.into_iter_gives ∙ c.pairs-i-items.ensures)

pub loop-i-preserved : goal.loop-i-preserved
loop-i-preserved c =
    one_more 64 c.args.duty.now c.args.p c.args.x.now c.args.y.now _ _ _ _ c.loop-i.sum _ _ c.in-Some.ensures.steps refl refl (omega arith) c.loop-i.invariant

pub returns-clause-is : goal.returns-clause-is
returns-clause-is c =
    all_summed 64 c.args.duty.now c.args.p c.args.x.now c.args.y.now c.args.ring _ _ c.reduce.result (omega (arith, c.recall.ensures.few)) c.in-None.ensures.steps.0 c.loop-i.invariant c.reduce.ensures.is
