use Rattle.outer_io.proofs.EmptyInlets.{empty_ends}
use Rattle.outer_io.proofs.inlet.an_empty_inlet_ends.Goals as goal

pub returns : goal.returns
returns c = empty_ends
