use Rattle.link_reader.proofs.Runs.{talks_through}
use Rattle.link_reader.proofs.laws.readers_talk_through.Goals as goal

pub returns : goal.returns
returns c = talks_through
