use Rattle.link_reader.proofs.Runs.{reads_a_run}
use Rattle.link_reader.proofs.laws.a_reader_reads_a_run.Goals as goal

pub returns : goal.returns
returns c = reads_a_run
