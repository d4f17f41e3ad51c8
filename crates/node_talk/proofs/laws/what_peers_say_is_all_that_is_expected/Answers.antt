use Rattle.node_talk.proofs.RightRuns.{hears_all}
use Rattle.node_talk.proofs.laws.what_peers_say_is_all_that_is_expected.Goals as goal

pub returns : goal.returns
returns c = λ n links whole hears. hears_all n whole links hears
