use Rattle.std.proofs.Common.{◌≡◌}
use Rattle.list_laws.specs.Lists.{joined, only_if}
use Rattle.party_set.specs.Parties.{has_party}
use Rattle.plan_model.specs.Patterns.{open_transfers}
use Rattle.job_plan.proofs.pattern_transfers.opened_transfers.Given as goal

abbrev pub invariant-loop-r : goal.invariant-loop-r
invariant-loop-r l = l.transfers ≡ joined l.r (λ r. only_if (has_party l.readers r) (open_transfers l.outline r))
