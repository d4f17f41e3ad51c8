use Rattle.std.proofs.Common.{◌+◌, ◌-◌, ◌≤◌}
use Rattle.message_board.specs.Seats.{IsSeatOf}
use Rattle.program_model.specs.States.{Given}
use Rattle.desk_walks.specs.Walks.{HasWords, IsSending, Sends}
use Rattle.desk_walks.proofs.GatePosts.{posted_on}
use Rattle.desk_walks.proofs.walks.post_each.Given as goal

abbrev pub invariant-loop-at : goal.invariant-loop-at
invariant-loop-at g l =
    (2 ≤ l.at)
    × (l.at ≤ l.count)
    × IsSeatOf l.board l.seat
    × ((given : Given) → IsSending l.plan given 2 l.fn.desk → HasWords given (g.W.Promise.list l.board.about.world)
    → IsSending l.plan given l.at (posted_on l.fn.desk (l.at - 2))
    × Sends given l.fn.seat l.fn.desk.position l.seat (l.fn.desk.position + (l.at - 2)))

abbrev pub decreases-loop-at : goal.decreases-loop-at
decreases-loop-at g l = l.count - l.at
