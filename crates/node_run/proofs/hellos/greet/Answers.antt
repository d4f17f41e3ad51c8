use Rattle.std.proofs.Common.{ap, ◌∙◌, subst, arith}
use Rattle.node_run.specs.Mail.{Mail}
use Rattle.node_run.specs.Progress.{Greeted}
use Rattle.node_run.proofs.FlushSteps.{all_gone, hello_stays}
use Rattle.node_run.proofs.hellos.greet.Goals as goal

pub loop-q-init : goal.loop-q-init
loop-q-init g c = λ n start digest h. h

pub greet_one-requires : goal.greet_one-requires
greet_one-requires g c =
    let r = c.requires in
    let parties = c.parties-q-end.ensures.is ∙ ap (λ (z : Mail). z.plan.parties) c.cells.view_is ∙ ap (λ z. z.parties) r.3.own.plan in
    (r.0, r.1, r.2, omega (arith, c.loop-q-test.true, parties), c.loop-q.invariant r.0 r.1 r.2 r.3)

pub returns-then-not-greet_one-clause-halted : goal.returns-then-not-greet_one-clause-halted
returns-then-not-greet_one-clause-halted g c = λ n start digest h yes.
    let parties = c.parties-q-end.ensures.is ∙ ap (λ (z : Mail). z.plan.parties) c.cells.view_is ∙ ap (λ z. z.parties) h.own.plan in
    c.greet_one.ensures.halted n start digest (omega (arith, c.loop-q-test.true, parties)) (c.loop-q.invariant n start digest h) c.if-not-greet_one.true

pub loop-q-preserved : goal.loop-q-preserved
loop-q-preserved g c = λ n start digest h.
    let parties = c.parties-q-end.ensures.is ∙ ap (λ (z : Mail). z.plan.parties) c.cells.view_is ∙ ap (λ z. z.parties) h.own.plan in
    c.greet_one.ensures.on n start digest (omega (arith, c.loop-q-test.true, parties)) (c.loop-q.invariant n start digest h) c.if-not-greet_one.false

pub returns-clause-on : goal.returns-clause-on
returns-clause-on g c = λ n start digest h yes.
    let parties = c.parties-q-end.ensures.is ∙ ap (λ (z : Mail). z.plan.parties) c.cells.view_is ∙ ap (λ z. z.parties) h.own.plan in
    all_gone n start _ c.loop-q.cells c.flush_all.new.cells
    (subst (λ z. Greeted n z start c.loop-q.cells) (omega (arith, c.loop-q-test.false, parties, c.loop-q.auto.q-end)) (c.loop-q.invariant n start digest h))
    (c.flush_all.ensures.on yes) (c.flush_all.ensures.out yes)

pub returns-clause-halted : goal.returns-clause-halted
returns-clause-halted g c = λ n start digest h no.
    let parties = c.parties-q-end.ensures.is ∙ ap (λ (z : Mail). z.plan.parties) c.cells.view_is ∙ ap (λ z. z.parties) h.own.plan in
    hello_stays n start c.loop-q.cells c.flush_all.new.cells
    (subst (λ z. Greeted n z start c.loop-q.cells) (omega (arith, c.loop-q-test.false, parties, c.loop-q.auto.q-end)) (c.loop-q.invariant n start digest h))
    (c.flush_all.ensures.failed no)
