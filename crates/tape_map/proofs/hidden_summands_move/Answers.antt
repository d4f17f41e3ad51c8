use Rattle.tape_map.proofs.ChangedTapes.{can_move, words_move}
use Rattle.tape_map.proofs.HiddenSummands.{summands_move, values_move, masks_move, excess_stays}
use Rattle.tape_map.proofs.hidden_summands_move.Goals as goal

pub returns-clause-words : goal.returns-clause-words
returns-clause-words c = words_move

pub returns-clause-summands : goal.returns-clause-summands
returns-clause-summands c = λ w other group h. summands_move w other group (can_move w other group h)

pub returns-clause-values : goal.returns-clause-values
returns-clause-values c = λ w other group h. values_move w other group (can_move w other group h)

pub returns-clause-masks : goal.returns-clause-masks
returns-clause-masks c = λ w other group h. masks_move w other group (can_move w other group h)

pub returns-clause-excess : goal.returns-clause-excess
returns-clause-excess c = λ w other group h. excess_stays w other group (can_move w other group h)
