use Rattle.std.proofs.Common.{subst, sym}
use Rattle.desk_laws.specs.Pools.{AllEnded}
use Rattle.core_world.proofs.StuckDesks.{stuck_is_ended, all_full}
use Rattle.core_world.proofs.steps.finish_all.Goals as goal

pub loop-moved-preserved : goal.loop-moved-preserved
loop-moved-preserved c =
    let h = c.loop-moved.invariant in
    let e = c.round-moved.ensures in record {
      state = λ w p law s. e.state w p law (h.state w p law s);
      ended = λ w p whole s none.
          let now = h.state w p whole s in
          subst (AllEnded w) (sym (e.still none).0) (stuck_is_ended w c.loop-moved.desks c.loop-moved.cells whole now (e.stuck w p whole now none));
    }

pub returns-clause-full : goal.returns-clause-full
returns-clause-full c w p whole s =
    let h = c.loop-moved.invariant in
    all_full w c.loop-moved.desks c.loop-moved.cells whole (h.state w p whole s) (h.ended w p whole s c.loop-moved-test.false)
