use Rattle.std.proofs.Common.{◌≡◌}
use Rattle.list_laws.specs.Lists.{joined, only_if}
use Rattle.secret_sharing.specs.Schemes.{has_pair}
use Rattle.plan_model.specs.Plans.{scheme}
use Rattle.plan_model.specs.Patterns.{deal_transfers}
use Rattle.job_plan.proofs.pattern_transfers.multiplied_transfers.Given as goal

abbrev pub invariant-loop-p : goal.invariant-loop-p
invariant-loop-p l = l.transfers ≡ joined l.p (λ p. only_if (has_pair (scheme l.outline) p) (deal_transfers l.outline p))
