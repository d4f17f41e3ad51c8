use Rattle.std.proofs.Common.{if◌then◌else◌, sym, ap, ◌∙◌}
use Rattle.desk_workers.proofs.steps.goes_on.Goals as goal

pub returns-clause-stuck : goal.returns-clause-stuck
returns-clause-stuck c none k h = c.step_on.ensures.stuck (sym c.is_move.ensures ∙ ap (λ b. if b then 1 else 0) none) k h
