use Rattle.std.proofs.Common.{◌≡◌, ◌+◌, min, length}
use Rattle.message_board.specs.Seats.{IsSeatOf}
use Rattle.desk_laws.specs.Pools.{AllEnded, left_all}
use Rattle.desk_workers.specs.Promises.{world_in}
use Rattle.desk_workers.specs.Pools.{AllStand}
use Rattle.desk_workers.proofs.finish.finish.Given as goal

abbrev pub invariant-loop-moves : goal.invariant-loop-moves
invariant-loop-moves l =
    IsSeatOf l.board l.seat
    × AllStand (world_in l.board.about.world) l.seat.view.seen l.desks
    × (length l.desks ≡ length l.fn.desks)
    × (l.moves ≡ 0 → AllEnded (world_in l.board.about.world) l.desks)

abbrev pub decreases-loop-moves : goal.decreases-loop-moves
decreases-loop-moves l = left_all l.desks + min 1 l.moves
