use Rattle.share_world.proofs.WireSums.{world_sums}
use Rattle.share_world.proofs.sum_is_plain.Goals as goal

pub returns : goal.returns
returns c = world_sums
