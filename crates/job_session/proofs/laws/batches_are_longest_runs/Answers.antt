use Rattle.job_session.proofs.BatchOrder.{longest_runs}
use Rattle.job_session.proofs.laws.batches_are_longest_runs.Goals as goal

pub returns : goal.returns
returns c = longest_runs
