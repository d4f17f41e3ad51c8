use Rattle.std.proofs.Common.{◌≡◌, ◌++◌}
use Rattle.list_laws.specs.Lists.{joined}
use Rattle.plan_model.specs.Patterns.{held_transfer}
use Rattle.job_plan.proofs.pattern_transfers.push_holders.Given as goal

abbrev pub invariant-loop-p : goal.invariant-loop-p
invariant-loop-p l = l.transfers ≡ l.fn.transfers ++ joined l.p (held_transfer l.outline l.share)
