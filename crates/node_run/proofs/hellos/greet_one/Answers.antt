use Rattle.std.proofs.Common.{◌≢◌, None, ap, sym, ◌∙◌, subst}
use Rattle.frame_code.specs.Frames.{hello}
use Rattle.node_run.specs.Mail.{Mail, SentTo}
use Rattle.node_run.proofs.HelloSteps.{not_some, not_none, greeted, hello_failed}
use Rattle.node_run.proofs.hellos.greet_one.Goals as goal

pub returns-clause-on : goal.returns-clause-on
returns-clause-on g c = λ n start digest lq h yes.
    let me = ap (λ (z : Mail). z.me) c.cells.view_is ∙ h.own.me in
    let other : c.args.q ≢ n.me = λ e. c.if-q-cells.false (e ∙ sym me) in
    let sent = subst (λ z. SentTo c.args.q z c.args.cells.now c.send.new.self) (c.hello-hello.ensures ∙ ap (λ z. hello z c.args.q c.args.digest.now) me ∙ ap (λ z. hello n.me c.args.q z) (sym digest)) c.send.ensures in
    greeted n c.args.q start c.args.cells.now h lq other c.send.new.self sent (ap (λ (z : Mail). z.failed) (sym c.cells-2.view_is) ∙ not_some c.cells-2.inside.failed c.is_none.result c.is_none.ensures yes)

pub returns-clause-halted : goal.returns-clause-halted
returns-clause-halted g c = λ n start digest lq h no.
    let me = ap (λ (z : Mail). z.me) c.cells.view_is ∙ h.own.me in
    let other : c.args.q ≢ n.me = λ e. c.if-q-cells.false (e ∙ sym me) in
    let sent = subst (λ z. SentTo c.args.q z c.args.cells.now c.send.new.self) (c.hello-hello.ensures ∙ ap (λ z. hello z c.args.q c.args.digest.now) me ∙ ap (λ z. hello n.me c.args.q z) (sym digest)) c.send.ensures in
    let some : c.send.new.self.failed ≢ None = λ f. not_none c.cells-2.inside.failed c.is_none.result c.is_none.ensures no (ap (λ (z : Mail). z.failed) c.cells-2.view_is ∙ f) in
    hello_failed n c.args.q start c.args.cells.now h lq other c.send.new.self sent some
