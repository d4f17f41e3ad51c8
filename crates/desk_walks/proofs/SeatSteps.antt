-- Steps of a desk on a board, with a seat of it as cells.
use Rattle.std.proofs.Common.{◌≡◌, ◌≢◌, ℕ, ◌<◌, List, length, Some, sym, ap, subst, arith}
use Rattle.std.specs.Prelude.{slice_get}
use Rattle.plan_model.specs.Plans.{Plan}
use Rattle.message_board.specs.declared.cells.Cells.{Ghosts as Meaning}
use Rattle.message_board.specs.declared.seat_at.SeatAt.{SeatAt}
use Rattle.message_board.specs.Pairs.{Knows}
use Rattle.message_board.specs.Seats.{IsSeatOf, HasPosted, HasTaken, AllBelow}
use Rattle.program_model.specs.States.{Given}
use Rattle.party_desk.specs.declared.desk.Desk.{Desk}
use Rattle.party_desk.specs.declared.desk.Stepped.{Stepped}
use Rattle.party_desk.specs.declared.desk.Stepped.TheVariants.{Moved}
use Rattle.party_desk.specs.Desks.{instruction_at}
use Rattle.party_desk.specs.Steps.{MayStep, Steps}
use Rattle.desk_walks.specs.Walks.{MayWalk, Walks}
use Rattle.desk_walks.proofs.BesideSteps.{may_step, step_leaves, step_moved, step_still, step_walks}

-- what a board with a seat means as cells
abbrev pub seat_cells : {W T : Type 0} → (W → List ℕ) → Meaning (SeatAt W T)
seat_cells list = record {
  may_post = λ c n v. IsSeatOf c.board.now c.seat.now × (slice_get (list c.board.now.about.world) n ≡ Some v);
  may_take = λ c n. IsSeatOf c.board.now c.seat.now × (n < length (list c.board.now.about.world));
  got = λ c n v. Knows c.seat.now.view.seen n v;
  put = λ c n v a f. (f.board ≡ c.board) × (f.seat.ghost_name ≡ c.seat.ghost_name) × HasPosted c.board.now c.seat.now f.seat.now n v a;
  took = λ c n a f. (f.board ≡ c.board) × (f.seat.ghost_name ≡ c.seat.ghost_name) × HasTaken list c.board.now c.seat.now f.seat.now n a;
  below = λ c k. AllBelow k (list c.board.now.about.world);
}

module _ {W T : Type 0} (list : W → List ℕ) (plan : Plan) (c : SeatAt W T) (d : Desk) (seat : IsSeatOf c.board.now c.seat.now) (l : Given) (may : MayWalk plan (list c.board.now.about.world) l d) where
  -- a desk that may walk may step
  pub steps_at : MayStep (seat_cells list) plan c l d
  steps_at = may_step (seat_cells list) (λ x. x.seat.now) list c.board.now l c d may.goes.desk may.promises plan may.goes.same (λ n w is. (seat, is)) (λ n less. (seat, less))

  pub words_below : AllBelow plan.bits (list c.board.now.about.world)
  words_below = subst (λ z. AllBelow z.bits (list c.board.now.about.world)) may.goes.same may.promises.below

  -- what a step did
  module _ (f : SeatAt W T) (e : Desk) (r : Stepped) (steps : MayStep (seat_cells list) plan c l d → Steps (seat_cells list) l d c e f (instruction_at l d) r) where
    pub same_board : (f.board ≡ c.board) × (f.seat.ghost_name ≡ c.seat.ghost_name)
    same_board =
        step_leaves (seat_cells list) (λ x. x.seat.now) list c.board.now l c d may.goes.desk may.promises f e
        ((f.board ≡ c.board) × (f.seat.ghost_name ≡ c.seat.ghost_name)) (λ n w a put. (put.0, put.1)) (λ n a took. (took.0, took.1)) (λ same. (ap (λ x. x.board) same, ap (λ x. x.seat.ghost_name) same))
        r (steps steps_at)

    pub still_seated : IsSeatOf c.board.now f.seat.now
    still_seated =
        step_leaves (seat_cells list) (λ x. x.seat.now) list c.board.now l c d may.goes.desk may.promises f e
        (IsSeatOf c.board.now f.seat.now) (λ n w a put. put.2.0) (λ n a took. took.2.0) (λ same. subst (λ x. IsSeatOf c.board.now x.seat.now) (sym same) seat)
        r (steps steps_at)

    pub walked : Walks l c.seat.now d f.seat.now e
    walked = step_walks (seat_cells list) (λ x. x.seat.now) list c.board.now l c d may.goes.desk may.promises f e (λ n w a put. put.2) (λ n a took. took.2) r (steps steps_at)

    pub went_on : r ≡ Moved → d.position < e.position
    went_on moved = let more = step_moved (seat_cells list) (λ x. x.seat.now) list c.board.now l c d may.goes.desk may.promises f e r moved (steps steps_at) in omega (arith, more)

    pub stood_still : r ≢ Moved → e ≡ d
    stood_still still = step_still (seat_cells list) (λ x. x.seat.now) list c.board.now l c d may.goes.desk may.promises f e r still (steps steps_at)
