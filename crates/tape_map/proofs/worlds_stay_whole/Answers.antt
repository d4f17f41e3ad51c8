use Rattle.tape_map.proofs.ChangedTapes.{inputs_change, second_whole}
use Rattle.tape_map.proofs.worlds_stay_whole.Goals as goal

pub returns-clause-inputs : goal.returns-clause-inputs
returns-clause-inputs c = inputs_change

pub returns-clause-second : goal.returns-clause-second
returns-clause-second c = second_whole
