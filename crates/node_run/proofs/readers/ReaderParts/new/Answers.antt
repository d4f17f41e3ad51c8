use Rattle.std.proofs.Common.{refl}
use Rattle.node_run.proofs.readers.ReaderParts.new.Goals as goal

pub invariant_of-result : goal.invariant_of-result
invariant_of-result c = (c.requires.seat, c.requires.new, c.requires.places)

pub returns : goal.returns
returns c = refl
