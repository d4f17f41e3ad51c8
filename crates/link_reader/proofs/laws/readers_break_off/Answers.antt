use Rattle.link_reader.proofs.BrokenOffRuns.{breaks_off}
use Rattle.link_reader.proofs.laws.readers_break_off.Goals as goal

pub returns : goal.returns
returns c = breaks_off
