use Rattle.share_world.proofs.WorkedProduct.{plain_is, words_are, whole_is}
use Rattle.share_world.proofs.multiply_job.Goals as goal

pub returns-clause-plain : goal.returns-clause-plain
returns-clause-plain c = plain_is

pub returns-clause-words : goal.returns-clause-words
returns-clause-words c = words_are

pub returns-clause-whole : goal.returns-clause-whole
returns-clause-whole c = whole_is
