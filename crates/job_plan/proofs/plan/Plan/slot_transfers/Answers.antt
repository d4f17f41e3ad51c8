use Rattle.std.proofs.Common.{map, ap, sym, subst, ◌∙◌}
use Rattle.plan_model.specs.Plans.{Plan, slot}
use Rattle.plan_model.specs.Patterns.{named, transfers}
use Rattle.job_plan.specs.Tables.{AreTransfers}
use Rattle.plan_model.proofs.SlotPatterns.{slots_follow_patterns}
use Rattle.job_plan.proofs.plan.Plan.slot_transfers.Goals as goal

pub returns-clause-is : goal.returns-clause-is
returns-clause-is c =
    let plan = c.args.self.now in
    let s = c.args.s in
    let k = c.args.k in
    let kept = subst (λ (p : Plan). AreTransfers p c.self.inside.patterns) c.self.view_is c.self.invariant.transfers in
    ap (map (named s k)) (c.transfers.ensures plan kept c.pattern.ensures.occurs ∙ ap (transfers plan) c.pattern.ensures.is) ∙ sym (slots_follow_patterns plan s k (slot plan s k))
