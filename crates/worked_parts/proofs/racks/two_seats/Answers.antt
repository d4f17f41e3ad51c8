use Rattle.std.proofs.Common.{subst}
use Rattle.message_board.specs.Seats.{AreNewSeats}
use Rattle.message_board.proofs.SeatLists.{new_last}
use Rattle.worked_parts.proofs.NewSeats.{new_others}
use Rattle.worked_parts.proofs.racks.two_seats.Goals as goal

pub returns : goal.returns
returns c =
    let rack = c.args.rack.now in
    let all = subst (AreNewSeats rack) c.in_ok-second.ensures.items c.requires in
    let others = subst (AreNewSeats rack) c.in_ok-first.ensures.items (new_others rack c.pop.new.self.items c.in_ok-second.second all) in
    ((new_last rack c.pop-2.new.self.items c.in_ok-first.first others).0, (new_last rack c.pop.new.self.items c.in_ok-second.second all).0)
