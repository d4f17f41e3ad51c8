use Rattle.std.proofs.Common.{◌≡◌, ◌≤◌}
use Rattle.plan_model.specs.Plans.{least_held}
use Rattle.job_plan.proofs.counts.least_held.Given as goal

abbrev pub invariant-loop-i : goal.invariant-loop-i
invariant-loop-i l = record {
  is : l.count ≡ least_held l.outline l.p l.i;
  few : l.count ≤ l.i;
}
