use Rattle.std.proofs.Common.{◌≡◌, ◌*◌, ◌≤◌}
use Rattle.list_laws.specs.Lists.{total}
use Rattle.plan_model.specs.Tallies.{openings}
use Rattle.job_plan.proofs.counts.all_openings.Given as goal

abbrev pub invariant-loop-s : goal.invariant-loop-s
invariant-loop-s l = record {
  is : l.count ≡ total l.s (openings l.outline l.r);
  few : l.count ≤ 262144 * l.s;
}
