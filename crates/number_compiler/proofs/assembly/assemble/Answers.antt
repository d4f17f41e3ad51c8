use Rattle.number_compiler.proofs.AssemblySteps.{narrow}
use Rattle.number_compiler.proofs.assembly.assemble.Goals as goal

pub gates-requires : goal.gates-requires
gates-requires c = narrow c.args.wires c.args.drafted.now c.args.inputs.now c.args.outputs.now c.requires
