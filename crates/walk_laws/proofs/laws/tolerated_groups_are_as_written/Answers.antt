use Rattle.walk_laws.proofs.ToleratedGroups.{jobs_tolerate, nodes_tolerate}
use Rattle.walk_laws.proofs.laws.tolerated_groups_are_as_written.Goals as goal

pub returns-clause-jobs : goal.returns-clause-jobs
returns-clause-jobs c = jobs_tolerate

pub returns-clause-nodes : goal.returns-clause-nodes
returns-clause-nodes c = nodes_tolerate
