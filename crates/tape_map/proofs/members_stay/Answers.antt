use Rattle.tape_map.proofs.WayBack.{members_stay, others_words}
use Rattle.tape_map.proofs.members_stay.Goals as goal

pub returns-clause-members : goal.returns-clause-members
returns-clause-members c = members_stay

pub returns-clause-others : goal.returns-clause-others
returns-clause-others c = others_words
