use Rattle.std.proofs.Common.{◌≡◌}
use Rattle.list_laws.specs.Lists.{listed}
use Rattle.plan_model.specs.Firsts.{first, session_starts}
use Rattle.job_plan.proofs.lists.list_starts.Given as goal

abbrev pub invariant-loop-s : goal.invariant-loop-s
invariant-loop-s l = record {
  list : l.list.items ≡ listed l.s (session_starts l.outline);
  before : l.before ≡ first l.outline l.s 0;
}
