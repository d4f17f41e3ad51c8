use Rattle.job_digest.proofs.JoinedFiles.{told_apart}
use Rattle.job_digest.proofs.each_file_is_told.Goals as goal

pub returns : goal.returns
returns c = told_apart
