use Rattle.std.proofs.Common.{◌≡◌, ℕ, ◌≤◌, length}
use Rattle.list_laws.specs.Lists.{joined}
use Rattle.plan_model.specs.Messages.{deal_message}
use Rattle.job_plan.proofs.counts.receivers.Given as goal

abbrev pub invariant-loop-q : goal.invariant-loop-q
invariant-loop-q l = record {
  is : (s k : ℕ) → l.count ≡ length (joined l.q (deal_message l.outline s k l.p l.i));
  few : l.count ≤ l.q;
}
