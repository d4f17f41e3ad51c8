use Rattle.node_talk.proofs.ExpectedPlaces.{placed}
use Rattle.node_talk.proofs.laws.messages_stand_at_their_places.Goals as goal

pub returns-clause-within : goal.returns-clause-within
returns-clause-within c = λ n m lm to. (placed n m lm to).0

pub returns-clause-at : goal.returns-clause-at
returns-clause-at c = λ n m lm to. (placed n m lm to).1
