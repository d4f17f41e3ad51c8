use Rattle.tape_map.proofs.SeenWords.{same_view, same_words, same_outputs}
use Rattle.tape_map.proofs.same_view.Goals as goal

pub returns-clause-view : goal.returns-clause-view
returns-clause-view c = same_view

pub returns-clause-words : goal.returns-clause-words
returns-clause-words c = same_words

pub returns-clause-outputs : goal.returns-clause-outputs
returns-clause-outputs c = same_outputs
