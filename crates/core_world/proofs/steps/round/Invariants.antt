use Rattle.std.proofs.Common.{◌≡◌, ℕ, ◌<◌, true, false}
use Rattle.std.specs.Prelude.{Some, slice_get}
use Rattle.share_world.specs.Worlds.{World}
use Rattle.party_desk.specs.declared.desk.Desk.{Desk}
use Rattle.core_world.specs.States.{IsState, StuckOn}
use Rattle.desk_laws.specs.Pools.{left_all}
use Rattle.share_world.specs.Laws.{IsWhole}
use Rattle.core_world.proofs.steps.round.Given as goal

abbrev pub invariant-loop-k : goal.invariant-loop-k
invariant-loop-k l = record {
  state : (w : World) → w.plan ≡ l.plan → IsWhole w → IsState w l.fn.desks l.fn.cells → IsState w l.desks l.cells;
  moved : l.moved ≡ true → left_all l.desks < left_all l.fn.desks;
  still : l.moved ≡ false → (l.desks ≡ l.fn.desks) × (l.cells ≡ l.fn.cells);
  stuck : (w : World) → w.plan ≡ l.plan → IsWhole w → IsState w l.fn.desks l.fn.cells → l.moved ≡ false → (j : ℕ) (d : Desk) → j < l.k → slice_get l.fn.desks j ≡ Some d → StuckOn w l.fn.cells.cells j d;
}
