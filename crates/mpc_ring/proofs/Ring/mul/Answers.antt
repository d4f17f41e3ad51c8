use Rattle.std.proofs.Common.{◌*◌, refl}
use Rattle.mpc_ring.proofs.Ring.mul.Goals as goal

pub returns-clause-is : goal.returns-clause-is
returns-clause-is c = c.keep.ensures.is (c.args.a * c.args.b) refl
