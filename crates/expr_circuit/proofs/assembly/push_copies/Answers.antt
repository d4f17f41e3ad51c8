use Rattle.expr_circuit.proofs.AssemblySteps.{copies_more}
use Rattle.expr_circuit.proofs.assembly.push_copies.Goals as goal

pub loop-at-preserved : goal.loop-at-preserved
loop-at-preserved c =
    copies_more c.args.drafted.now.items c.loop-at.drafted.items c.push.new.self.items c.args.wires.now c.loop-at.at _ c.loop-at-test.true c.loop-at.invariant c.in_ok-push.ensures.items
