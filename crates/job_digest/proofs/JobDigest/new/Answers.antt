use Rattle.job_digest.specs.Digests.{joined_files}
use Rattle.job_digest.proofs.JobDigest.new.Goals as goal

pub returns : goal.returns
unfolding joined_files
returns c = c.new.ensures
