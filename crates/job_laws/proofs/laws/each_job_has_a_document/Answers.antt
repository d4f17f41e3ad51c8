use Rattle.job_laws.proofs.DocumentRows.{says_its_job}
use Rattle.job_laws.proofs.ReadJobs.{good_job}
use Rattle.job_laws.proofs.laws.each_job_has_a_document.Goals as goal

pub returns-clause-said : goal.returns-clause-said
returns-clause-said c = says_its_job

pub returns-clause-within : goal.returns-clause-within
returns-clause-within c = good_job
