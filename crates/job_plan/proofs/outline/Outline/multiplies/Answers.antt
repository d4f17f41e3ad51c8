use Rattle.std.proofs.Common.{ap, ◌∙◌}
use Rattle.secret_sharing.specs.Schemes.{has_pair}
use Rattle.secret_sharing.specs.Duties.{scheme_of}
use Rattle.plan_model.specs.Plans.{scheme}
use Rattle.job_plan.proofs.outline.Outline.multiplies.Goals as goal

pub returns : goal.returns
returns c =
    c.deals.ensures c.self.inside.ring
    ∙ ap (λ d. has_pair (scheme_of c.self.inside.ring d) c.args.p) c.self.invariant.0
    ∙ ap (λ plan. has_pair (scheme plan) c.args.p) c.self.view_is
