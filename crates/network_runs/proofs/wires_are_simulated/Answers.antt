use Rattle.network_runs.proofs.SimulatedWires.{simulated_wires}
use Rattle.network_runs.proofs.wires_are_simulated.Goals as goal

pub returns : goal.returns
returns c = simulated_wires
