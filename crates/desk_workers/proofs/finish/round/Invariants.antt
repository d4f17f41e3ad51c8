use Rattle.std.proofs.Common.{◌≡◌, ℕ, ◌+◌, ◌*◌, ◌≤◌, ◌<◌, ◌^◌, length}
use Rattle.std.specs.Prelude.{Some, slice_get}
use Rattle.message_board.specs.Pairs.{Knows, Grows}
use Rattle.message_board.specs.Seats.{IsSeatOf}
use Rattle.party_desk.specs.declared.desk.Desk.{Desk}
use Rattle.desk_laws.specs.Pools.{Stuck, left_all}
use Rattle.desk_workers.specs.Promises.{world_in}
use Rattle.desk_workers.specs.Pools.{AllStand}
use Rattle.desk_workers.proofs.finish.round.Given as goal

abbrev pub invariant-loop-i : goal.invariant-loop-i
invariant-loop-i l =
    IsSeatOf l.board l.seat
    × Grows l.fn.seat.view.seen l.seat.view.seen
    × AllStand (world_in l.board.about.world) l.seat.view.seen l.desks
    × (length l.desks ≡ length l.fn.desks)
    × (l.moves + left_all l.desks ≡ left_all l.fn.desks)
    × (l.moves ≤ l.i * 2 ^ 32)
    × (l.moves ≡ 0 → l.desks ≡ l.fn.desks)
    × (l.moves ≡ 0 → (k : ℕ) (d : Desk) → k < l.i → slice_get l.fn.desks k ≡ Some d → Stuck (Knows l.fn.seat.view.seen) (world_in l.board.about.world) k d.position)
