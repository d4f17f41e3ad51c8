use Rattle.std.proofs.Common.{◌<◌, length}
use Rattle.plan_model.specs.Plans.{slots}
use Rattle.plan_model.specs.Firsts.{first}
use Rattle.job_plan.proofs.plan.Plan.session_of.Given as goal

-- the message stands before the end of session s
abbrev pub invariant-loop-s : goal.invariant-loop-s
invariant-loop-s l = record {
  there : l.s < length l.self.sessions;
  end : l.n < first l.self l.s (slots l.self l.s);
}

abbrev pub decreases-loop-s : goal.decreases-loop-s
decreases-loop-s l = l.s
