use Rattle.std.proofs.Common.{◌≡◌, ◌*◌, ◌≤◌}
use Rattle.list_laws.specs.Lists.{total}
use Rattle.session_slots.specs.Counts.{prepared_products}
use Rattle.plan_model.specs.Plans.{session}
use Rattle.job_plan.proofs.counts.all_masks.Given as goal

abbrev pub invariant-loop-s : goal.invariant-loop-s
invariant-loop-s l = record {
  is : l.count ≡ total l.s (λ s. 2 * prepared_products (session l.outline s));
  few : l.count ≤ 131072 * l.s;
}
