use Rattle.std.proofs.Common.{subst}
use Rattle.node_run.specs.Turns.{Turns}
use Rattle.node_run.proofs.sessions.walk.Goals as goal

pub loop-init : goal.loop-init
loop-init g c = record { state = λ n s start e h. h; keeps = λ m v e. e }

pub advance-requires : goal.advance-requires
advance-requires g c = let r = c.requires in (r.0, r.1, r.2, r.3, c.loop.invariant.state r.0 r.1 r.2 r.3 r.4)

pub loop-preserved-in-Moved : goal.loop-preserved-in-Moved
loop-preserved-in-Moved g c = record {
  state = λ n s start e h. subst (Turns n s start c.advance.new.desk c.advance.new.cells) c.in-Moved.is (c.advance.ensures.turns n s start e (c.loop.invariant.state n s start e h));
  keeps = λ m v e. c.advance.ensures.keeps m v (c.loop.invariant.keeps m v e);
}

pub wait_for-requires : goal.wait_for-requires
wait_for-requires g c =
    let r = c.requires in
    (subst (Turns r.0 r.1 r.2 c.advance.new.desk c.advance.new.cells) c.in-Waits.is (c.advance.ensures.turns r.0 r.1 r.2 r.3 (c.loop.invariant.state r.0 r.1 r.2 r.3 r.4))).1

pub returns-then-not-wait_for-clause-halted : goal.returns-then-not-wait_for-clause-halted
returns-then-not-wait_for-clause-halted g c = λ n s start e h no.
    let t = subst (Turns n s start c.advance.new.desk c.advance.new.cells) c.in-Waits.is (c.advance.ensures.turns n s start e (c.loop.invariant.state n s start e h)) in
    c.wait_for.ensures.halted n s start c.advance.new.desk t.0 t.2 c.if-not-wait_for.true

pub returns-then-not-wait_for-clause-keeps : goal.returns-then-not-wait_for-clause-keeps
returns-then-not-wait_for-clause-keeps g c = λ m v e. c.wait_for.ensures.keeps m v (c.advance.ensures.keeps m v (c.loop.invariant.keeps m v e))

pub loop-preserved : goal.loop-preserved
loop-preserved g c = record {
  state = λ n s start e h.
      let t = subst (Turns n s start c.advance.new.desk c.advance.new.cells) c.in-Waits.is (c.advance.ensures.turns n s start e (c.loop.invariant.state n s start e h)) in
      c.wait_for.ensures.on n s start c.advance.new.desk t.0 c.if-not-wait_for.false;
  keeps = λ m v e. c.wait_for.ensures.keeps m v (c.advance.ensures.keeps m v (c.loop.invariant.keeps m v e));
}

pub returns-in-Ended-clause-ended : goal.returns-in-Ended-clause-ended
returns-in-Ended-clause-ended g c = λ n s start e h yes. subst (Turns n s start c.advance.new.desk c.advance.new.cells) c.in-Ended.is (c.advance.ensures.turns n s start e (c.loop.invariant.state n s start e h))

pub returns-in-Ended-clause-keeps : goal.returns-in-Ended-clause-keeps
returns-in-Ended-clause-keeps g c = λ m v e. c.advance.ensures.keeps m v (c.loop.invariant.keeps m v e)

pub returns-in-Failed-clause-halted : goal.returns-in-Failed-clause-halted
returns-in-Failed-clause-halted g c = λ n s start e h no. subst (Turns n s start c.advance.new.desk c.advance.new.cells) c.in-Failed.is (c.advance.ensures.turns n s start e (c.loop.invariant.state n s start e h))

pub returns-in-Failed-clause-keeps : goal.returns-in-Failed-clause-keeps
returns-in-Failed-clause-keeps g c = λ m v e. c.advance.ensures.keeps m v (c.loop.invariant.keeps m v e)
