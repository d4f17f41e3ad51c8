use Rattle.session_slots.proofs.SessionSlots.{slots_are_numbered}
use Rattle.job_session.proofs.laws.slots_are_numbered.Goals as goal

pub returns : goal.returns
returns c = slots_are_numbered
