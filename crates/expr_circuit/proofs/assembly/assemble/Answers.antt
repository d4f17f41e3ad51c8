use Rattle.expr_circuit.proofs.AssemblySteps.{narrow}
use Rattle.expr_circuit.proofs.assembly.assemble.Goals as goal

pub gates-requires : goal.gates-requires
gates-requires c = narrow c.args.ring c.args.inputs c.args.drafted.now c.args.outputs c.requires
