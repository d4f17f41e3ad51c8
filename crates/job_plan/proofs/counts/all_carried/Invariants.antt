use Rattle.std.proofs.Common.{◌≡◌, ◌*◌, ◌≤◌}
use Rattle.list_laws.specs.Lists.{total}
use Rattle.session_slots.specs.Carries.{carried_count}
use Rattle.plan_model.specs.Plans.{session}
use Rattle.job_plan.proofs.counts.all_carried.Given as goal

abbrev pub invariant-loop-s : goal.invariant-loop-s
invariant-loop-s l = record {
  is : l.count ≡ total l.s (λ s. carried_count (session l.outline s));
  few : l.count ≤ 131072 * l.s;
}
