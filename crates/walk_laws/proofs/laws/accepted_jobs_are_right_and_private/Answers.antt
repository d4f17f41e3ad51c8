use Rattle.walk_laws.proofs.Headline.{jobs_keep_the_headline}
use Rattle.walk_laws.proofs.laws.accepted_jobs_are_right_and_private.Goals as goal

pub returns : goal.returns
returns c = jobs_keep_the_headline
