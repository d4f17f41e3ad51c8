use Rattle.posting_laws.proofs.Locality.{words_are_own}
use Rattle.posting_laws.proofs.posts.words_are_own.Goals as goal

pub returns : goal.returns
returns c = words_are_own
