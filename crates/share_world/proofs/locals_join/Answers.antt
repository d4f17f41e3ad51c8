use Rattle.share_world.proofs.JoinedLocals.{locals_join}
use Rattle.share_world.proofs.locals_join.Goals as goal

pub returns : goal.returns
returns c = locals_join
