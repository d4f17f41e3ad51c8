use Rattle.std.proofs.Common.{◌≡◌, ◌+◌, length}
use Rattle.message_board.specs.Pairs.{total_over}
use Rattle.message_board.specs.Seats.{IsFreeSeatOf, AreSeatsOf}
use Rattle.desk_workers.specs.Pools.{seats_in}
use Rattle.desk_workers.proofs.finish.fold_all.Given as goal

abbrev pub invariant-loop-other : goal.invariant-loop-other
invariant-loop-other l =
    IsFreeSeatOf l.board l.keeper
    × AreSeatsOf l.board l.seats.items
    × (l.keeper.view.seats + total_over seats_in l.seats.items ≡ total_over seats_in l.fn.seats.items)

abbrev pub decreases-loop-other : goal.decreases-loop-other
decreases-loop-other l = length l.seats.items
