use Rattle.network_runs.proofs.SimulatedWires.{carries_the_view}
use Rattle.network_runs.proofs.wires_carry_the_view.Goals as goal

pub returns : goal.returns
returns c = carries_the_view
