use Rattle.program_laws.proofs.Ranks.{batches_post_first, slots_post_first}
use Rattle.program_laws.proofs.posts_come_first.Goals as goal

pub returns-clause-batches : goal.returns-clause-batches
returns-clause-batches c plan s p sound ls = batches_post_first plan sound s p ls

pub returns-clause-slots : goal.returns-clause-slots
returns-clause-slots c plan s p sound ls = slots_post_first plan sound s p ls
