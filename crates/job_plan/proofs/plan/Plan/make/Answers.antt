use Rattle.std.proofs.Common.{◌∙◌, sym, ap, subst}
use Rattle.plan_model.specs.Plans.{KeepsCarried, keeping_plan}
use Rattle.session_slots.proofs.KeptSessions.{keeps_carried}
use Rattle.job_plan.proofs.plan.Plan.make.Goals as goal

pub tables_of-requires-clause-kept : goal.tables_of-requires-clause-kept
tables_of-requires-clause-kept c =
    subst KeepsCarried (sym (c.in_ok-outline.ensures ∙ ap keeping_plan c.of-outline.ensures)) (keeps_carried c.args.parts.items c.requires.fit)
