use Rattle.std.proofs.Common.{◌≡◌}
use Rattle.list_laws.specs.Lists.{listed}
use Rattle.plan_model.specs.Patterns.{deal_transfers}
use Rattle.job_plan.proofs.patterns.deals_of_each.Given as goal

abbrev pub invariant-loop-p : goal.invariant-loop-p
invariant-loop-p l = l.list.items ≡ listed l.p (deal_transfers l.outline)
