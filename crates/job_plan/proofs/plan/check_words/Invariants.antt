use Rattle.std.proofs.Common.{ℕ, ◌<◌, ◌≤◌}
use Rattle.plan_model.specs.Plans.{keeping_plan}
use Rattle.plan_model.specs.Tallies.{tape_length}
use Rattle.job_plan.proofs.plan.check_words.Given as goal

abbrev pub invariant-loop-party : goal.invariant-loop-party
invariant-loop-party l = (p : ℕ) → p < l.party → tape_length (keeping_plan l.outline) p ≤ 1048576
