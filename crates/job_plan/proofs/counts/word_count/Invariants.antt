use Rattle.std.proofs.Common.{◌≡◌, ◌*◌, ◌≤◌}
use Rattle.list_laws.specs.Lists.{total}
use Rattle.plan_model.specs.Plans.{words}
use Rattle.job_plan.proofs.counts.word_count.Given as goal

abbrev pub invariant-loop-s : goal.invariant-loop-s
invariant-loop-s l = record {
  is : l.count ≡ total l.s (words l.outline l.p);
  few : l.count ≤ 20774912 * l.s;
}
