use Rattle.network_runs.proofs.PlayedRuns.{runs_make_a_network}
use Rattle.network_runs.proofs.WholePlays.{worlds_are_played}
use Rattle.network_runs.proofs.runs_make_a_network.Goals as goal

pub returns-clause-network : goal.returns-clause-network
returns-clause-network c = runs_make_a_network

pub returns-clause-worked : goal.returns-clause-worked
returns-clause-worked c = worlds_are_played
