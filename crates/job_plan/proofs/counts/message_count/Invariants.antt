use Rattle.std.proofs.Common.{◌≡◌, ◌*◌, ◌^◌, ◌≤◌}
use Rattle.list_laws.specs.Lists.{total}
use Rattle.plan_model.specs.Tallies.{party_messages}
use Rattle.job_plan.proofs.counts.message_count.Given as goal

abbrev pub invariant-loop-p : goal.invariant-loop-p
invariant-loop-p l = record {
  is : l.count ≡ total l.p (party_messages l.outline);
  few : l.count ≤ 2 ^ 32 * l.p;
}
