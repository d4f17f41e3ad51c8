use Rattle.std.proofs.Common.{◌≡◌, ◌-◌, ◌≤◌}
use Rattle.message_board.specs.Seats.{IsSeatOf}
use Rattle.desk_walks.specs.Walks.{TakesLead}
use Rattle.desk_walks.proofs.walks.take_words.Given as goal

abbrev pub invariant-loop-next : goal.invariant-loop-next
invariant-loop-next g l =
    (l.place.done ≤ l.next)
    × (l.next ≤ l.last)
    × IsSeatOf l.board l.seat
    × TakesLead l.plan (g.W.Promise.list l.board.about.world) l.program l.place l.session l.fn.seat l.fn.memory l.seat l.memory (l.next - l.place.done)
    × (l.next ≡ l.place.done → l.memory ≡ l.fn.memory)

abbrev pub decreases-loop-next : goal.decreases-loop-next
decreases-loop-next g l = l.last - l.next
