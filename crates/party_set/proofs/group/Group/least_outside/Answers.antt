use Rattle.party_set.proofs.Masks.{least_is, no_least}
use Rattle.std.proofs.Common.{arith}
use Rattle.party_set.proofs.group.Group.least_outside.Goals as goal

pub returns-then-p-self : goal.returns-then-p-self
returns-then-p-self c = rw (← c.self.view_is, c.trailing_ones-p.ensures) (least_is c.self.inside.parties c.self.inside.mask c.self.invariant.1 c.self.invariant.2 (omega (arith, c.trailing_ones-p.ensures)))

pub returns-else-p-self : goal.returns-else-p-self
returns-else-p-self c = rw (← c.self.view_is) (no_least c.self.inside.parties c.self.inside.mask c.self.invariant.1 c.self.invariant.2 (omega (arith, c.trailing_ones-p.ensures)))
