use Rattle.std.proofs.Common.{◌≡◌, ℕ, ◌≤◌, length}
use Rattle.list_laws.specs.Lists.{joined}
use Rattle.plan_model.proofs.TallyLaws.{open_message}
use Rattle.job_plan.proofs.counts.opening_size.Given as goal

abbrev pub invariant-loop-i : goal.invariant-loop-i
invariant-loop-i l = record {
  is : (s k : ℕ) → l.count ≡ length (joined l.i (open_message l.outline s k l.r));
  few : l.count ≤ l.i;
}
