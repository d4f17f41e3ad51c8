use Rattle.std.proofs.Common.{◌≡◌, ◌++◌}
use Rattle.list_laws.specs.Lists.{joined}
use Rattle.plan_model.specs.Patterns.{deal_transfer}
use Rattle.job_plan.proofs.pattern_transfers.push_deal.Given as goal

abbrev pub invariant-loop-share : goal.invariant-loop-share
invariant-loop-share l = l.transfers ≡ l.fn.transfers ++ joined l.share (λ i. joined l.outline.parties (deal_transfer l.outline l.p i))
