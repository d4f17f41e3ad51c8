use Rattle.std.proofs.Common.{subst}
use Rattle.message_board.specs.Seats.{AreNewSeats}
use Rattle.message_board.proofs.SeatLists.{new_last}
use Rattle.worked_parts.proofs.boards.a_seat.Goals as goal

pub returns : goal.returns
returns c = (new_last c.args.board.now c.pop.new.self.items c.in_ok-seat.seat (subst (AreNewSeats c.args.board.now) c.in_ok-seat.ensures.items c.requires)).0
