use Rattle.program_model.proofs.RisingTakes.{takes_rise}
use Rattle.program_model.proofs.laws.takes_rise.Goals as goal

pub returns : goal.returns
returns c = takes_rise
