use Rattle.outer_io.proofs.EmptyInlets.{steady_fills}
use Rattle.outer_io.proofs.inlet.a_steady_inlet_fills_what_it_can.Goals as goal

pub returns : goal.returns
returns c = steady_fills
