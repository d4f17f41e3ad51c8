use Rattle.std.proofs.Common.{sym}
use Rattle.std.proofs.Math.Nat.{mod-eq_of_lt}
use Rattle.mpc_ring.proofs.Ring.reduce.Goals as goal

pub returns-clause-is : goal.returns-clause-is
returns-clause-is c = c.keep.ensures.is c.args.a (sym (mod-eq_of_lt c.ranges.a.fits))
