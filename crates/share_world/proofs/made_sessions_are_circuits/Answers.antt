use Rattle.share_world.proofs.MadeSessions.{made_is_circuit, made_has_values}
use Rattle.share_world.proofs.made_sessions_are_circuits.Goals as goal

pub returns-clause-valid : goal.returns-clause-valid
returns-clause-valid c = made_is_circuit

pub returns-clause-values : goal.returns-clause-values
returns-clause-values c = made_has_values
