-- A plan of one product is that of its own ring.
use Rattle.std.proofs.Common.{◌≡◌, ℕ, ap, sym, ◌∙◌}
use Rattle.plan_model.specs.Plans.{Plan}
use Rattle.plan_model.specs.Multiply.{multiply_plan}

pub own_ring : (plan made : Plan) (bits : ℕ) → plan ≡ made → made ≡ multiply_plan bits → plan ≡ multiply_plan plan.bits
own_ring plan made bits same is = same ∙ is ∙ ap multiply_plan (sym (ap (λ (p : Plan). p.bits) (same ∙ is)))
