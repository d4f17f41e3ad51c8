use Rattle.std.proofs.Common.{◌≡◌, ◌-◌, ◌++◌, replicate, None, vec_capacity}
use Rattle.message_board.proofs.room.push_nothing.Given as goal

abbrev pub invariant-loop : goal.invariant-loop
invariant-loop g l =
    (l.slots.items ≡ l.fn.slots.items ++ replicate (l.counter - 1) None)
    × (vec_capacity l.slots ≡ vec_capacity l.fn.slots)
