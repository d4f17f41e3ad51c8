use Rattle.std.proofs.Common.{◌≡◌, ◌+◌, ◌<◌, ◌^◌, ◌⊎◌}
use Rattle.message_board.specs.Seats.{IsSeatOf}
use Rattle.desk_laws.specs.Pools.{left}
use Rattle.desk_workers.specs.Pools.{LeadsOn, IsStuck}
use Rattle.desk_workers.proofs.steps.walk.Given as goal

abbrev pub invariant-loop-last : goal.invariant-loop-last
invariant-loop-last g l =
    IsSeatOf l.board l.seat
    × LeadsOn l.board l.fn.seat l.fn.desk l.seat l.desk l.moves
    × (l.moves ≡ 0 → (l.last ≡ 1) ⊎ IsStuck l.board l.fn.seat l.fn.desk)
    × (l.moves + left l.desk ≡ left l.fn.desk)
    × (left l.fn.desk < 2 ^ 32)

-- the last iteration makes no move
abbrev pub decreases-loop-last : goal.decreases-loop-last
decreases-loop-last g l = left l.desk + l.last
