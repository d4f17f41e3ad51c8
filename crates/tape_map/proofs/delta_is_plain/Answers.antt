use Rattle.tape_map.proofs.ReadWires.{delta_is_plain}
use Rattle.tape_map.proofs.delta_is_plain.Goals as goal

pub returns : goal.returns
returns c = delta_is_plain
