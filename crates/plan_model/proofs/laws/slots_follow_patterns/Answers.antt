use Rattle.plan_model.proofs.SlotPatterns.{slots_follow_patterns}
use Rattle.plan_model.proofs.laws.slots_follow_patterns.Goals as goal

pub returns : goal.returns
returns c = slots_follow_patterns
