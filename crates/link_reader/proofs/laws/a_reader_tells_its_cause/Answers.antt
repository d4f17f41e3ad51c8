use Rattle.link_reader.proofs.ToldCauses.{tells_cause}
use Rattle.link_reader.proofs.laws.a_reader_tells_its_cause.Goals as goal

pub returns : goal.returns
returns c = tells_cause
