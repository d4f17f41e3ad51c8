use Rattle.std.proofs.Common.{ap, sym, ◌∙◌, subst}
use Rattle.party_desk.specs.Steps.{MayStep}
use Rattle.program_model.specs.States.{Given}
use Rattle.node_run.specs.Mail.{Mail}
use Rattle.node_run.proofs.KnownWords.{is_there, is_missing}
use Rattle.node_run.proofs.SessionSteps.{node_cells, are_node_cells, some_given, moved, waited, at_end}
use Rattle.node_run.proofs.sessions.advance.Goals as goal

pub step-requires-clause-may : goal.step-requires-clause-may
step-requires-clause-may g c =
    let r = c.requires in
    subst (λ z. (given : Given) × MayStep node_cells z c.args.cells.now given c.args.desk.now) r.3
    (some_given node_cells are_node_cells r.0 r.1 r.2 c.args.desk.now c.args.cells.now r.4)

pub returns-then-is_some-clause-turns : goal.returns-then-is_some-clause-turns
returns-then-is_some-clause-turns g c = λ n s start e h.
    (moved node_cells are_node_cells n s start c.args.desk.now c.args.cells.now h c.step.new.self c.step.new.cells
    (λ given may. c.in-Moved.ensures.steps given (subst (λ z. MayStep node_cells z c.args.cells.now given c.args.desk.now) e may)) c.step.ensures.keeps.got).1
    (λ f. is_there c.cells.inside.failed c.is_some.result (sym c.is_some.ensures) c.if-is_some.true (ap (λ (z : Mail). z.failed) c.cells.view_is ∙ f))

pub returns-in-Moved-clause-turns : goal.returns-in-Moved-clause-turns
returns-in-Moved-clause-turns g c = λ n s start e h.
    (moved node_cells are_node_cells n s start c.args.desk.now c.args.cells.now h c.step.new.self c.step.new.cells
    (λ given may. c.in-Moved.ensures.steps given (subst (λ z. MayStep node_cells z c.args.cells.now given c.args.desk.now) e may)) c.step.ensures.keeps.got).0
    (ap (λ (z : Mail). z.failed) (sym c.cells.view_is) ∙ is_missing c.cells.inside.failed c.is_some.result (sym c.is_some.ensures) c.if-is_some.false)

pub returns-in-NotYet-clause-turns : goal.returns-in-NotYet-clause-turns
returns-in-NotYet-clause-turns g c = λ n s start e h.
    waited node_cells are_node_cells n s start c.args.desk.now c.args.cells.now h c.step.new.self c.step.new.cells c.in-NotYet.number
    (λ given may. c.in-NotYet.ensures.steps given (subst (λ z. MayStep node_cells z c.args.cells.now given c.args.desk.now) e may))

pub returns-in-Ended-clause-turns : goal.returns-in-Ended-clause-turns
returns-in-Ended-clause-turns g c = λ n s start e h.
    at_end node_cells are_node_cells n s start c.args.desk.now c.args.cells.now h c.step.new.self c.step.new.cells
    (λ given may. c.in-Ended.ensures.steps given (subst (λ z. MayStep node_cells z c.args.cells.now given c.args.desk.now) e may))

pub returns-then-is_some-clause-keeps : goal.returns-then-is_some-clause-keeps
returns-then-is_some-clause-keeps g c = c.step.ensures.keeps.got

pub returns-in-Moved-clause-keeps : goal.returns-in-Moved-clause-keeps
returns-in-Moved-clause-keeps g c = c.step.ensures.keeps.got

pub returns-in-NotYet-clause-keeps : goal.returns-in-NotYet-clause-keeps
returns-in-NotYet-clause-keeps g c = c.step.ensures.keeps.got

pub returns-in-Ended-clause-keeps : goal.returns-in-Ended-clause-keeps
returns-in-Ended-clause-keeps g c = c.step.ensures.keeps.got
