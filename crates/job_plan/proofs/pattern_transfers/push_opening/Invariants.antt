use Rattle.std.proofs.Common.{◌≡◌, ◌++◌}
use Rattle.list_laws.specs.Lists.{joined}
use Rattle.plan_model.proofs.SlotPatterns.{open_transfer}
use Rattle.job_plan.proofs.pattern_transfers.push_opening.Given as goal

abbrev pub invariant-loop-share : goal.invariant-loop-share
invariant-loop-share l = l.transfers ≡ l.fn.transfers ++ joined l.share (open_transfer l.outline l.r)
