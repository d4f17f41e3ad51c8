use Rattle.std.proofs.Common.{arith}
use Rattle.node_run.proofs.SessionOrder.{in_session, next_order, order_at}
use Rattle.node_run.proofs.sessions.walk_all.Goals as goal

pub loop-s-init : goal.loop-s-init
loop-s-init g c = λ n start e h. h

pub walk-requires : goal.walk-requires
walk-requires g c =
    let r = c.requires in
    (r.0, c.loop-s.s, r.1, r.2, in_session r.0 c.loop-s.s r.1 c.loop-s.desks _ (c.loop-s.invariant r.0 r.1 r.2 r.3) (omega (arith, c.loop-s.auto.desks, c.loop-s-test.true)) c.index-desks-s.result)

pub returns-then-not-walk-clause-halted : goal.returns-then-not-walk-clause-halted
returns-then-not-walk-clause-halted g c = λ n start e h no.
    let i = in_session n c.loop-s.s start c.loop-s.desks _ (c.loop-s.invariant n start e h) (omega (arith, c.loop-s.auto.desks, c.loop-s-test.true)) c.index-desks-s.result in
    c.walk.ensures.halted n c.loop-s.s start e i c.if-not-walk.true

pub loop-s-preserved : goal.loop-s-preserved
loop-s-preserved g c = λ n start e h.
    let o = c.loop-s.invariant n start e h in
    let i = in_session n c.loop-s.s start c.loop-s.desks _ o (omega (arith, c.loop-s.auto.desks, c.loop-s-test.true)) c.index-desks-s.result in
    let x = c.walk.ensures.ended n c.loop-s.s start e i c.if-not-walk.false in
    next_order n c.loop-s.s start c.loop-s.desks _ o (omega (arith, c.loop-s.auto.desks, c.loop-s-test.true)) c.walk.new.desk c.walk.new.cells x.0 x.1 c.walk.ensures.keeps

pub returns-clause-ended : goal.returns-clause-ended
returns-clause-ended g c = λ n start e h yes. order_at n _ _ start _ _ (omega (arith, c.loop-s.auto.desks, c.loop-s.auto.s-end, c.loop-s-test.false)) (c.loop-s.invariant n start e h)
