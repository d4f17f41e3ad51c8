use Rattle.number_compiler.proofs.WireDepths.{have_depths}
use Rattle.number_compiler.proofs.laws.compiled_wires_have_depths.Goals as goal

pub returns : goal.returns
returns c = have_depths
