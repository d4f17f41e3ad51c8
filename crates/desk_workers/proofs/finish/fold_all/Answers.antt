use Rattle.std.proofs.Common.{◌≡◌, ◌+◌, ap, ◌∙◌, subst, arith}
use Rattle.message_board.specs.Pairs.{total_over}
use Rattle.message_board.specs.Seats.{AreSeatsOf}
use Rattle.desk_workers.specs.Pools.{seats_in}
use Rattle.desk_workers.proofs.SeatLists.{last_free, total_last}
use Rattle.desk_workers.proofs.finish.fold_all.Goals as goal

pub loop-other-init : goal.loop-other-init
loop-other-init c =
    let rest = c.pop.new.self.items in
    let first = c.in-Some.first in
    let is = c.in-Some.ensures.items in
    let split = last_free c.args.board.now rest first (subst (λ l. AreSeatsOf c.args.board.now l) is c.requires.seats) in
    let sum : total_over seats_in c.args.seats.items ≡ total_over seats_in rest + first.view.seats = ap (λ l. total_over seats_in l) is ∙ total_last rest first in
    (split.1, split.0, omega arith)

pub fold-keeper-requires-clause-other : goal.fold-keeper-requires-clause-other
fold-keeper-requires-clause-other c = (last_free c.args.board.now c.pop-in-loop-other.new.self.items c.in-Some-pop.other (subst (λ l. AreSeatsOf c.args.board.now l) c.in-Some-pop.ensures.items c.loop-other.invariant.1)).1

pub loop-other-preserved : goal.loop-other-preserved
loop-other-preserved c =
    let h = c.loop-other.invariant in
    let rest = c.pop-in-loop-other.new.self.items in
    let other = c.in-Some-pop.other in
    let is = c.in-Some-pop.ensures.items in
    let split = last_free c.args.board.now rest other (subst (λ l. AreSeatsOf c.args.board.now l) is h.1) in
    let view = c.fold-keeper.ensures.view in
    let sum : total_over seats_in c.loop-other.seats.items ≡ total_over seats_in rest + other.view.seats = ap (λ l. total_over seats_in l) is ∙ total_last rest other in
    let both : c.fold-keeper.result.view.seats ≡ c.loop-other.keeper.view.seats + other.view.seats = ap (λ v. v.seats) view in
    ((c.fold-keeper.ensures.seat, ap (λ v. v.out) view ∙ h.0.1), split.0, (let s = h.2 in omega arith))
