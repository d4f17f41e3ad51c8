use Rattle.number_compiler.proofs.AssemblySteps.{gates_more}
use Rattle.number_compiler.proofs.assembly.gates.Goals as goal

pub loop-at-preserved : goal.loop-at-preserved
loop-at-preserved c =
    gates_more c.args.inputs c.args.drafted.now c.loop-at.at _ c.loop-at.gates.items c.push.new.self.items c.gate.result c.loop-at-test.true c.loop-at.invariant c.gate.ensures c.in_ok-push.ensures.items
