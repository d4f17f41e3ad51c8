use Rattle.std.proofs.Common.{◌≡◌, ◌+◌, ◌-◌, if◌then◌else◌}
use Rattle.message_board.specs.Seats.{IsSeatOf}
use Rattle.program_model.specs.States.{Given}
use Rattle.desk_walks.specs.Walks.{MayWalk, Walks}
use Rattle.desk_walks.proofs.beside.walk_beside.Given as goal

abbrev pub invariant-loop-goes : goal.invariant-loop-goes
invariant-loop-goes g l =
    IsSeatOf l.board l.seat
    × ((given : Given) → MayWalk l.plan (g.W.Promise.list l.board.about.world) given l.fn.desk
    → Walks given l.fn.seat l.fn.desk l.seat l.desk)
    × (l.desk.position ≡ l.fn.desk.position → l.desk ≡ l.fn.desk)

abbrev pub decreases-loop-goes : goal.decreases-loop-goes
decreases-loop-goes g l = 4294967296 - l.desk.position + (if l.goes then 1 else 0)
