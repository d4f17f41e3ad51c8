use Rattle.std.proofs.Common.{ap, ◌∙◌, subst, arith}
use Rattle.node_run.specs.Mail.{Mail, IsMail}
use Rattle.node_run.specs.Progress.{FlushedBelow}
use Rattle.node_run.proofs.FlushSteps.{none_flushed, nothing_waits}
use Rattle.node_run.proofs.flushes.flush_all.Goals as goal

pub loop-q-init : goal.loop-q-init
loop-q-init g c = record { flushed = none_flushed c.args.cells.now; mail = subst IsMail c.cells.view_is c.cells.invariant }

pub returns-then-not-flush_one-clause-failed : goal.returns-then-not-flush_one-clause-failed
returns-then-not-flush_one-clause-failed g c = λ no. c.flush_one.ensures.failed c.args.cells.now c.loop-q.invariant.flushed c.if-not-flush_one.true

pub loop-q-preserved : goal.loop-q-preserved
loop-q-preserved g c = record {
  flushed = c.flush_one.ensures.on c.args.cells.now c.loop-q.invariant.flushed c.if-not-flush_one.false;
  mail = c.flush_one.ensures.mail;
}

pub returns-clause-on : goal.returns-clause-on
returns-clause-on g c = λ yes.
    let parties = c.parties-q-end.ensures.is ∙ ap (λ (z : Mail). z.plan.parties) c.cells.view_is in
    subst (λ z. FlushedBelow z c.args.cells.now c.loop-q.cells) (omega (arith, c.loop-q-test.false, parties, c.loop-q.auto.q-end)) c.loop-q.invariant.flushed

pub returns-clause-out : goal.returns-clause-out
returns-clause-out g c = λ yes.
    let parties = c.parties-q-end.ensures.is ∙ ap (λ (z : Mail). z.plan.parties) c.cells.view_is in
    nothing_waits c.args.cells.now c.loop-q.cells c.loop-q.invariant.mail
    (subst (λ z. FlushedBelow z c.args.cells.now c.loop-q.cells) (omega (arith, c.loop-q-test.false, parties, c.loop-q.auto.q-end)) c.loop-q.invariant.flushed)
