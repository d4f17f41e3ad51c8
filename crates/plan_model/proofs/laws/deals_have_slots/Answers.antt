use Rattle.plan_model.proofs.DealSlots.{deals_have_slots}
use Rattle.plan_model.proofs.laws.deals_have_slots.Goals as goal

pub returns : goal.returns
returns c = deals_have_slots
