use Rattle.session_slots.proofs.Carries.{carried_outputs}
use Rattle.job_session.proofs.laws.carried_wires_are_outputs.Goals as goal

pub returns : goal.returns
returns c = carried_outputs
