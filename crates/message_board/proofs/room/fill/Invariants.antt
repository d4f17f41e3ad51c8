use Rattle.std.proofs.Common.{◌≡◌, ◌+◌, ◌*◌, ◌≤◌, List, ◌++◌, reverse, length, vec_capacity}
use Rattle.message_board.specs.Words.{apart, spaced}
use Rattle.message_board.proofs.room.fill.Given as goal

abbrev pub invariant-loop-item : goal.invariant-loop-item
invariant-loop-item g l =
    ((tail : List _) × (l.items.items ++ tail ≡ l.fn.items.items) × (l.slots.items ≡ reverse (spaced tail)))
    × (apart * length l.items.items + length l.slots.items ≤ vec_capacity l.slots)
    × (vec_capacity l.items ≡ vec_capacity l.fn.items)

abbrev pub decreases-loop-item : goal.decreases-loop-item
decreases-loop-item g l = length l.items.items
