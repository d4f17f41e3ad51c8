use Rattle.std.proofs.Common.{◌≡◌, ◌+◌, false, if◌then◌else◌}
use Rattle.share_world.specs.Worlds.{World}
use Rattle.core_world.specs.States.{IsState}
use Rattle.desk_laws.specs.Pools.{left_all, AllEnded}
use Rattle.share_world.specs.Laws.{IsWhole}
use Rattle.core_world.proofs.steps.finish_all.Given as goal

abbrev pub invariant-loop-moved : goal.invariant-loop-moved
invariant-loop-moved l = record {
  state : (w : World) → w.plan ≡ l.plan → IsWhole w → IsState w l.fn.desks l.fn.cells → IsState w l.desks l.cells;
  ended : (w : World) → w.plan ≡ l.plan → IsWhole w → IsState w l.fn.desks l.fn.cells → l.moved ≡ false → AllEnded w l.desks;
}

abbrev pub decreases-loop-moved : goal.decreases-loop-moved
decreases-loop-moved l = left_all l.desks + (if l.moved then 1 else 0)
