use Rattle.maximal_groups.proofs.FoundGroups.{tells}
use Rattle.maximal_groups.proofs.find.maximal_groups_tell.Goals as goal

pub returns : goal.returns
returns c = λ n tolerated few closed. tells n tolerated closed
