use Rattle.std.proofs.Common.{sym, ◌∙◌, arith}
use Rattle.circuit_model.proofs.ListTests.{exceeds_next, exceeds_here, exceeds_end}
use Rattle.circuit_model.proofs.checks.exceeds.Goals as goal

pub returns-then-width-left : goal.returns-then-width-left
returns-then-width-left c = sym (c.loop-width.invariant ∙ exceeds_here c.args.widths.now c.loop-width.width-index c.loop-width.left c.loop-width-test.true c.if-width-left.true)

pub loop-width-preserved : goal.loop-width-preserved
loop-width-preserved c = c.loop-width.invariant ∙ exceeds_next c.args.widths.now c.loop-width.width-index c.loop-width.left c.loop-width-test.true c.if-width-left.false

pub returns : goal.returns
returns c = sym (c.loop-width.invariant ∙ exceeds_end c.args.widths.now c.loop-width.width-index c.loop-width.left (omega arith))
