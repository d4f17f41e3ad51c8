use Rattle.std.proofs.Common.{◌≡◌}
use Rattle.list_laws.specs.Lists.{joined}
use Rattle.plan_model.specs.Patterns.{open_transfers}
use Rattle.job_plan.proofs.pattern_transfers.opened_to_all_transfers.Given as goal

abbrev pub invariant-loop-r : goal.invariant-loop-r
invariant-loop-r l = l.transfers ≡ joined l.r (open_transfers l.outline)
