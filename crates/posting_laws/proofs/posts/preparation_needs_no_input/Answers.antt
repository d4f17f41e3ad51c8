use Rattle.posting_laws.proofs.PreparedWords.{prepared_alone, prepared_words_stay, preparation_first}
use Rattle.posting_laws.proofs.posts.preparation_needs_no_input.Goals as goal

pub returns-clause-first : goal.returns-clause-first
returns-clause-first c = preparation_first

pub returns-clause-words : goal.returns-clause-words
returns-clause-words c = prepared_words_stay

pub returns-clause-alone : goal.returns-clause-alone
returns-clause-alone c = prepared_alone
