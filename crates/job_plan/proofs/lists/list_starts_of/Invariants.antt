use Rattle.std.proofs.Common.{◌≡◌}
use Rattle.list_laws.specs.Lists.{listed}
use Rattle.plan_model.specs.Firsts.{first}
use Rattle.job_plan.proofs.lists.list_starts_of.Given as goal

abbrev pub invariant-loop-k : goal.invariant-loop-k
invariant-loop-k l = record {
  starts : l.starts.items ≡ listed l.k (first l.outline l.s);
  next : l.next ≡ first l.outline l.s l.k;
}
