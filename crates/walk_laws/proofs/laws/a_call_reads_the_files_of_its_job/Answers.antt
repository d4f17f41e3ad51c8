use Rattle.walk_laws.proofs.FilesRead.{calls_read}
use Rattle.walk_laws.proofs.laws.a_call_reads_the_files_of_its_job.Goals as goal

pub returns : goal.returns
returns c = calls_read
