use Rattle.std.proofs.Common.{◌≡◌, ℕ, ◌<◌, ◌≤◌, length, vec_capacity}
use Rattle.message_board.specs.Pairs.{Has}
use Rattle.message_board.specs.Seats.{IsSeatOf, slots_of}
use Rattle.desk_workers.specs.Promises.{world_in}
use Rattle.desk_workers.specs.Pools.{AllStand}
use Rattle.desk_workers.proofs.finish.take_all.Given as goal

abbrev pub invariant-loop-slot : goal.invariant-loop-slot
invariant-loop-slot l =
    IsSeatOf l.rack l.seat
    × (l.seat.view.seats ≡ l.fn.seat.view.seats)
    × ((j : ℕ) → Has l.seat.view.out j → j < l.slot)
    × (length l.desks.items ≡ l.slot)
    × (slots_of l.rack.id ≤ vec_capacity l.desks)
    × AllStand (world_in l.rack.about.world) l.seat.view.seen l.desks.items
