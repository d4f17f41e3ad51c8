use Rattle.std.proofs.Common.{◌≡◌}
use Rattle.list_laws.specs.Lists.{joined}
use Rattle.plan_model.specs.Patterns.{held_transfer}
use Rattle.job_plan.proofs.pattern_transfers.held_transfers.Given as goal

abbrev pub invariant-loop-share : goal.invariant-loop-share
invariant-loop-share l = l.transfers ≡ joined l.share (λ i. joined l.outline.parties (held_transfer l.outline i))
