use Rattle.std.proofs.Common.{◌≡◌, ◌+◌, ◌≤◌, ◌++◌, reverse, length, vec_capacity}
use Rattle.message_board.specs.Words.{held}
use Rattle.message_board.proofs.room.give_back.Given as goal

abbrev pub invariant-loop-slot : goal.invariant-loop-slot
invariant-loop-slot g l =
    (held l.slots.items ++ reverse l.items.items ≡ held l.fn.slots.items)
    × (length (held l.slots.items) + length l.items.items ≤ vec_capacity l.items)

abbrev pub decreases-loop-slot : goal.decreases-loop-slot
decreases-loop-slot g l = length l.slots.items
