use Rattle.std.proofs.Common.{◌≡◌}
use Rattle.list_laws.specs.Lists.{listed}
use Rattle.plan_model.specs.Firsts.{word_starts}
use Rattle.job_plan.proofs.lists.list_words.Given as goal

abbrev pub invariant-loop-p : goal.invariant-loop-p
invariant-loop-p l = l.list.items ≡ listed l.p (word_starts l.outline)
