use Rattle.share_world.proofs.LocalWords.{reads_before}
use Rattle.share_world.proofs.reads_before.Goals as goal

pub returns : goal.returns
returns c = reads_before
