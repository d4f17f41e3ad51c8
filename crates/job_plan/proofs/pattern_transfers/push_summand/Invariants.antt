use Rattle.std.proofs.Common.{◌≡◌, ◌++◌}
use Rattle.list_laws.specs.Lists.{joined}
use Rattle.plan_model.specs.Patterns.{deal_transfer}
use Rattle.job_plan.proofs.pattern_transfers.push_summand.Given as goal

abbrev pub invariant-loop-receiver : goal.invariant-loop-receiver
invariant-loop-receiver l = l.transfers ≡ l.fn.transfers ++ joined l.receiver (deal_transfer l.outline l.p l.share)
