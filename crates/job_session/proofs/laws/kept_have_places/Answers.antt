use Rattle.session_slots.proofs.Carries.{kept_have_places}
use Rattle.job_session.proofs.laws.kept_have_places.Goals as goal

pub returns : goal.returns
returns c = kept_have_places
