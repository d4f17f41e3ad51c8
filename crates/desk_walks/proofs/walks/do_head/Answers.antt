use Rattle.std.proofs.Common.{◌∙◌}
use Rattle.desk_walks.proofs.ComputedGates.{none_of_gates}
use Rattle.desk_walks.proofs.GatePosts.{silent_head}
use Rattle.desk_walks.proofs.walks.do_head.Goals as goal

pub returns-in-Silent-clause-does : goal.returns-in-Silent-clause-does
returns-in-Silent-clause-does g c is given may =
    silent_head c.args.plan.now given c.args.seat.now c.args.seat.now c.args.desk.now c.linear_gate.new.desk (c.linear_gate.ensures.does is given may.goes)

pub returns-in_default-clause-through : goal.returns-in_default-clause-through
returns-in_default-clause-through g c is given may =
    none_of_gates given c.args.desk.now may.goes.desk (λ silent. c.in_default.not-Silent (c.pattern.ensures ∙ silent)) (λ product. c.in_default.not-Multiplied (c.pattern.ensures ∙ product))
