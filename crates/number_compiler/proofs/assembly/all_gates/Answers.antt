use Rattle.number_compiler.proofs.AssemblySteps.{copies_more}
use Rattle.number_compiler.proofs.assembly.all_gates.Goals as goal

pub loop-at-preserved : goal.loop-at-preserved
loop-at-preserved c =
    copies_more c.args.drafted.now c.loop-at.all.items c.push.new.self.items c.args.bits.now c.loop-at.at _ c.copy.result c.loop-at-test.true c.loop-at.invariant c.copy.ensures c.in_ok-push.ensures.items
