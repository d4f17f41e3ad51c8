use Rattle.std.proofs.Common.{◌≡◌, ◌*◌, ◌≤◌}
use Rattle.list_laws.specs.Lists.{total}
use Rattle.plan_model.specs.Numbers.{deals}
use Rattle.job_plan.proofs.counts.all_deals.Given as goal

abbrev pub invariant-loop-s : goal.invariant-loop-s
invariant-loop-s l = record {
  is : l.count ≡ total l.s (deals l.outline l.p);
  few : l.count ≤ 196608 * l.s;
}
