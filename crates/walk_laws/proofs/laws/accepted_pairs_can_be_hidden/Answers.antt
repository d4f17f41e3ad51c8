use Rattle.walk_laws.proofs.HiddenPairs.{pairs_can_hide}
use Rattle.walk_laws.proofs.laws.accepted_pairs_can_be_hidden.Goals as goal

pub returns : goal.returns
returns c = pairs_can_hide
