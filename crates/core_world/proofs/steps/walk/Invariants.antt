use Rattle.std.proofs.Common.{◌≡◌, ◌<◌, true, false}
use Rattle.share_world.specs.Worlds.{World}
use Rattle.core_world.specs.States.{IsState}
use Rattle.desk_laws.specs.Pools.{left_all}
use Rattle.share_world.specs.Laws.{IsWhole}
use Rattle.core_world.proofs.steps.walk.Given as goal

abbrev pub invariant-loop-moved : goal.invariant-loop-moved
invariant-loop-moved l = record {
  state : (w : World) → w.plan ≡ l.plan → IsWhole w → IsState w l.fn.desks l.fn.cells → IsState w l.desks l.cells;
  moved : l.moved ≡ true → left_all l.desks < left_all l.fn.desks;
  still : l.moved ≡ false → (l.desks ≡ l.fn.desks) × (l.cells ≡ l.fn.cells);
}

abbrev pub decreases-loop-moved : goal.decreases-loop-moved
decreases-loop-moved l = left_all l.desks
