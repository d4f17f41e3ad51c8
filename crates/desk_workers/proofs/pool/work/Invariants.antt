use Rattle.std.proofs.Common.{◌≡◌, ◌+◌, ◌-◌, ◌*◌, ◌≤◌, ◌<◌, ◌^◌}
use Rattle.message_board.specs.Seats.{IsFreeSeatOf}
use Rattle.desk_workers.proofs.pool.work.Given as goal

abbrev pub invariant-loop-over : goal.invariant-loop-over
invariant-loop-over g l =
    IsFreeSeatOf l.rack l.seat
    × (l.seat.view.seats ≡ l.fn.seat.view.seats)
    × (l.idle ≤ 64)
    × (l.made < 2 ^ 41)

abbrev pub decreases-loop-over : goal.decreases-loop-over
decreases-loop-over g l = 65 * (l.instructions - l.made) + (64 - l.idle)
