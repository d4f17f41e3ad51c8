use Rattle.share_world.proofs.WorkedCarries.{carried_plain, carried_whole, carried_words}
use Rattle.share_world.proofs.carried_job.Goals as goal

pub returns-clause-plain : goal.returns-clause-plain
returns-clause-plain c = carried_plain

pub returns-clause-words : goal.returns-clause-words
returns-clause-words c = carried_words

pub returns-clause-whole : goal.returns-clause-whole
returns-clause-whole c = carried_whole
