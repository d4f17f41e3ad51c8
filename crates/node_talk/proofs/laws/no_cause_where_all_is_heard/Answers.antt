use Rattle.node_talk.proofs.NoCauses.{no_cause}
use Rattle.node_talk.proofs.laws.no_cause_where_all_is_heard.Goals as goal

pub returns : goal.returns
returns c = λ n before after refused refused' fault long hears none no_refusal cause. no_cause n before after refused refused' long hears none no_refusal fault cause
