use Rattle.program_laws.proofs.SameTalks.{posts_stay, takes_stay}
use Rattle.program_laws.proofs.talks_stay.Goals as goal

pub returns-clause-posts : goal.returns-clause-posts
returns-clause-posts c = posts_stay

pub returns-clause-takes : goal.returns-clause-takes
returns-clause-takes c = takes_stay
