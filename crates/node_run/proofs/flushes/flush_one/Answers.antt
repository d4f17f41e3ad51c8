use Rattle.std.proofs.Common.{◌≢◌, ap, sym, ◌∙◌, subst}
use Rattle.node_run.specs.Mail.{Mail, IsMail}
use Rattle.node_run.proofs.HelloSteps.{not_some, not_none}
use Rattle.node_run.proofs.FlushSteps.{skipped, flushed_more, flush_failed}
use Rattle.node_run.proofs.flushes.flush_one.Goals as goal

pub returns-then-q-cells-clause-on : goal.returns-then-q-cells-clause-on
returns-then-q-cells-clause-on g c = λ before h yes. skipped c.args.q before c.args.cells.now h (c.if-q-cells.true ∙ ap (λ (z : Mail). z.me) c.cells.view_is)

pub returns-clause-on : goal.returns-clause-on
returns-clause-on g c = λ before h yes.
    let other : c.args.q ≢ c.args.cells.now.me = λ e. c.if-q-cells.false (e ∙ sym (ap (λ (z : Mail). z.me) c.cells.view_is)) in
    flushed_more c.args.q before c.args.cells.now h c.requires other c.flush.new.self c.flush.ensures
    (ap (λ (z : Mail). z.failed) (sym c.cells-2.view_is) ∙ not_some c.cells-2.inside.failed c.is_none.result c.is_none.ensures yes)

pub returns-clause-failed : goal.returns-clause-failed
returns-clause-failed g c = λ before h no.
    let other : c.args.q ≢ c.args.cells.now.me = λ e. c.if-q-cells.false (e ∙ sym (ap (λ (z : Mail). z.me) c.cells.view_is)) in
    flush_failed c.args.q before c.args.cells.now h c.requires other c.flush.new.self c.flush.ensures
    (λ f. not_none c.cells-2.inside.failed c.is_none.result c.is_none.ensures no (ap (λ (z : Mail). z.failed) c.cells-2.view_is ∙ f))

pub returns-then-q-cells-clause-mail : goal.returns-then-q-cells-clause-mail
returns-then-q-cells-clause-mail g c = subst IsMail c.cells.view_is c.cells.invariant

pub returns-clause-mail : goal.returns-clause-mail
returns-clause-mail g c = subst IsMail c.cells-2.view_is c.cells-2.invariant
