-- The new seats before the last one.
use Rattle.std.proofs.Common.{List, [], ◌∷◌, ◌++◌}
use Rattle.message_board.specs.Seats.{BoardModel, Sitting, AreNewSeats}

module _ {W : Type 0} where
  pub new_others : (board : BoardModel W) (seats : List (Sitting W)) (last : Sitting W) → AreNewSeats board (seats ++ last ∷ []) → AreNewSeats board seats
  new_others board [] last h = tt
  new_others board (seat ∷ seats) last h = (h.0, new_others board seats last h.1)
