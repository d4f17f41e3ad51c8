use Rattle.walk_laws.proofs.Statuses.{status_says}
use Rattle.walk_laws.proofs.laws.each_status_says_why.Goals as goal

pub returns : goal.returns
returns c = status_says
