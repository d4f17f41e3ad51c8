use Rattle.std.proofs.Common.{◌≡◌, ◌*◌, ◌-◌, ◌<◌, ◌≤◌, ◌^◌}
use Rattle.message_board.specs.Seats.{IsFreeSeatOf, slots_of}
use Rattle.desk_workers.proofs.pool.pass.Given as goal

abbrev pub invariant-loop-visits : goal.invariant-loop-visits
invariant-loop-visits g l =
    IsFreeSeatOf l.rack l.seat
    × (l.seat.view.seats ≡ l.fn.seat.view.seats)
    × (0 < l.visited.count → l.desk < slots_of l.rack.id)
    × (l.visits ≤ l.visited.count)
    × (l.moves ≤ l.visits * 2 ^ 32)

abbrev pub decreases-loop-visits : goal.decreases-loop-visits
decreases-loop-visits g l = l.visited.count - l.visits
