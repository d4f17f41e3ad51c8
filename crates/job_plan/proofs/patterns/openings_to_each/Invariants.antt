use Rattle.std.proofs.Common.{◌≡◌, map, take}
use Rattle.plan_model.specs.declared.pattern.Pattern.TheVariants.{Opened}
use Rattle.plan_model.specs.Patterns.{transfers}
use Rattle.job_plan.proofs.patterns.openings_to_each.Given as goal

abbrev pub invariant-loop-mask : goal.invariant-loop-mask
invariant-loop-mask l = l.list.items ≡ map (λ mask. transfers l.outline (Opened mask)) (take l.mask-index l.readers)
