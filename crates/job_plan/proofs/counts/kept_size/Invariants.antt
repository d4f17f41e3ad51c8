use Rattle.std.proofs.Common.{◌≡◌, ℕ, ◌*◌, ◌≤◌, length}
use Rattle.list_laws.specs.Lists.{joined}
use Rattle.plan_model.specs.Messages.{kept_message}
use Rattle.job_plan.proofs.counts.kept_size.Given as goal

abbrev pub invariant-loop-i : goal.invariant-loop-i
invariant-loop-i l = record {
  is : (s k : ℕ) → l.count ≡ length (joined l.i (λ i. joined l.outline.parties (kept_message l.outline s k i)));
  few : l.count ≤ 12 * l.i;
}
