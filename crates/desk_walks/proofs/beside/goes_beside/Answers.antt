use Rattle.std.proofs.Common.{arith}
use Rattle.desk_walks.proofs.beside.goes_beside.Goals as goal

pub returns-clause-still : goal.returns-clause-still
returns-clause-still g c same = absurd (let more = c.step_on.ensures.on c.if-not-step_on.false in omega (arith, more, same))
