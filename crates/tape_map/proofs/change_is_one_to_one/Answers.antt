use Rattle.tape_map.proofs.ChangedTapes.{can_move}
use Rattle.tape_map.proofs.WayBack.{one_to_one, onto}
use Rattle.tape_map.proofs.change_is_one_to_one.Goals as goal

pub returns-clause-one_to_one : goal.returns-clause-one_to_one
returns-clause-one_to_one c = λ w other group h. one_to_one w other group (can_move w other group h)

pub returns-clause-onto : goal.returns-clause-onto
returns-clause-onto c = λ w other group h. onto w other group (can_move w other group h)
