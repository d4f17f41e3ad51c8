use Rattle.node_talk.proofs.MessageOrder.{talk_is_said}
use Rattle.node_talk.proofs.laws.a_talk_is_said.Goals as goal

pub returns : goal.returns
returns c = talk_is_said
