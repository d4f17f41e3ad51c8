use Rattle.std.proofs.Common.{arith}
use Rattle.q2_test.proofs.Orders.{q2_from}
use Rattle.q2_test.proofs.covering_pair.Goals as goal

pub returns : goal.returns
returns c = q2_from c.args.groups.now (λ a b la lab lb. c.loop-i.invariant a b (omega arith) lab lb)
