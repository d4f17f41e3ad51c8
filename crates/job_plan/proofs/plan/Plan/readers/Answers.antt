use Rattle.std.proofs.Common.{ℕ, List, ◌++◌, subst}
use Rattle.mask_list.specs.Masks.{AreMasksOf}
use Rattle.session_slots.specs.Sessions.{readers}
use Rattle.plan_model.specs.Plans.{Plan, session}
use Rattle.job_plan.proofs.plan.Plan.readers.Goals as goal

pub returns : goal.returns
returns c =
    let made = c.add_readers.new.masks in
    let of_plan = subst (λ (plan : Plan). AreMasksOf made (c.new-masks.result ++ readers (session plan c.args.s))) c.self.view_is c.in_ok-add_readers.ensures in
    subst (λ (none : List ℕ). AreMasksOf made (none ++ readers (session c.args.self.now c.args.s))) c.new-masks.ensures of_plan
