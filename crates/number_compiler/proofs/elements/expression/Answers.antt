use Rattle.std.proofs.Common.{arith}
use Rattle.number_compiler.proofs.ElementSteps.{goes_start, goes_next, goes_stops, goes_ends}
use Rattle.number_compiler.proofs.elements.expression.Goals as goal

pub loop-one-init : goal.loop-one-init
loop-one-init c = λ of are. goes_start of c.args.line.now.text.now c.args.line.now.number c.args.elements.now c.args.gates.now c.clear.new.self c.clear.ensures

pub returns-in-Err : goal.returns-in-Err
returns-in-Err c = λ of are. goes_stops of c.args.line.now.text.now c.args.line.now.number c.args.elements.now c.args.gates.now c.loop-one.one-index _ c.loop-one.by_number c.loop-one.pending c.element.new.pending c.loop-one.gates c.element.new.gates c.element.result c.in-Err.fault c.loop-one-test.true (c.loop-one.invariant of are) c.in-Err.is (c.element.ensures of are)

pub loop-one-preserved : goal.loop-one-preserved
loop-one-preserved c = λ of are. goes_next of c.args.line.now.text.now c.args.line.now.number c.args.elements.now c.args.gates.now c.loop-one.one-index _ c.loop-one.by_number c.says_number-by_number.result c.loop-one.pending c.element.new.pending c.loop-one.gates c.element.new.gates c.element.result c.loop-one-test.true (c.loop-one.invariant of are) c.in-Ok.is (c.element.ensures of are) c.says_number-by_number.ensures

pub returns : goal.returns
returns c = λ of are. goes_ends of c.args.line.now.text.now c.args.line.now.number c.args.elements.now c.args.gates.now c.loop-one.one-index c.loop-one.by_number c.loop-one.pending c.loop-one.gates c.pop.result (omega (arith, c.loop-one-test.false)) (c.loop-one.invariant of are) c.pop.ensures.is
