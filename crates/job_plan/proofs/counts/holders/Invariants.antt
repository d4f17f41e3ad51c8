use Rattle.std.proofs.Common.{◌≡◌, ℕ, ◌≤◌, length}
use Rattle.list_laws.specs.Lists.{joined}
use Rattle.plan_model.specs.Messages.{kept_message}
use Rattle.job_plan.proofs.counts.holders.Given as goal

abbrev pub invariant-loop-p : goal.invariant-loop-p
invariant-loop-p l = record {
  is : (s k : ℕ) → l.count ≡ length (joined l.p (kept_message l.outline s k l.i));
  few : l.count ≤ l.p;
}
