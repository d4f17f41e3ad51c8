use Rattle.reshare_step.proofs.PairSums.{SumsUp}
use Rattle.reshare_step.proofs.own_products.Given as goal

abbrev pub invariant-loop-i : goal.invariant-loop-i
invariant-loop-i l = SumsUp 64 l.duty l.p l.x l.y l.i-iterator l.sum
