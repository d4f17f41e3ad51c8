use Rattle.tape_map.proofs.ChangedTapes.{can_move, can_go_back}
use Rattle.tape_map.proofs.WayBack.{goes_back}
use Rattle.tape_map.proofs.goes_back.Goals as goal

pub returns-clause-can : goal.returns-clause-can
returns-clause-can c = can_go_back

pub returns-clause-back : goal.returns-clause-back
returns-clause-back c = λ w other group h. goes_back w other group (can_move w other group h)
