use Rattle.std.proofs.Common.{◌≡◌, ◌≤◌, if◌then◌else◌}
use Rattle.list_laws.specs.Lists.{total}
use Rattle.session_slots.specs.Sessions.{is_carried, source}
use Rattle.plan_model.specs.Plans.{session}
use Rattle.job_plan.proofs.counts.carried_count.Given as goal

abbrev pub invariant-loop-v : goal.invariant-loop-v
invariant-loop-v l = record {
  is : l.count ≡ total l.v (λ v. if is_carried (source (session l.outline l.s) v) then 1 else 0);
  few : l.count ≤ l.v;
}
