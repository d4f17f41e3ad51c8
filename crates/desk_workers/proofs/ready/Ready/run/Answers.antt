use Rattle.std.proofs.Common.{rules, ◌≡◌, ◌*◌, ◌<◌, ◌^◌, [], ◌∷◌, ◌++◌, length, ap, sym, subst, ◌∙◌, inl, arith}
use Rattle.message_board.specs.Pairs.{total_over}
use Rattle.message_board.specs.Seats.{KnownBy, AreSeatsOf, HasCells, slots_of}
use Rattle.share_world.specs.Laws.{IsWhole}
use Rattle.party_desk.specs.declared.desk.Desk.{Desk}
use Rattle.desk_laws.specs.Pools.{AllEnded}
use Rattle.desk_workers.specs.declared.done.Done.{Done}
use Rattle.desk_workers.specs.Promises.{world_in, words_of}
use Rattle.desk_workers.specs.Pools.{IsPool, AllStand}
use Rattle.desk_workers.specs.Runs.{IsOver, instructions_of}
use Rattle.desk_workers.proofs.Counts.{few_instructions}
use Rattle.desk_workers.proofs.SeatLists.{free_of_new, seats_of_free, seats_in_new, same_total}
use Rattle.desk_workers.proofs.RunEnds.{over}
use Rattle.desk_workers.proofs.ready.Ready.run.Goals as goal

pub work_all-requires-clause-few : goal.work_all-requires-clause-few
work_all-requires-clause-few g c κs within =
    let ready = c.requires.2 in
    let few : instructions_of c.requires.0 < 2 ^ 40 = few_instructions c.requires.0 ready.whole in
    let same : c.args.self.instructions ≡ instructions_of c.requires.0 = ready.instructions in
    omega arith

pub work_all-requires-clause-each : goal.work_all-requires-clause-each
work_all-requires-clause-each g c κs within = free_of_new c.args.self.rack c.args.self.seats.items c.requires.2.new

pub fold_all-keeper-requires-clause-seats : goal.fold_all-keeper-requires-clause-seats
fold_all-keeper-requires-clause-seats g c = subst (λ b. AreSeatsOf b c.work_all.new.seats.items) (sym c.board.ensures) (seats_of_free c.args.self.rack c.work_all.new.seats.items c.work_all.ensures.each)

pub take_all-all-requires-clause-seats : goal.take_all-all-requires-clause-seats
take_all-all-requires-clause-seats g c =
    let ready = c.requires.2 in
    c.fold_all-keeper.ensures.seats
    ∙ same_total c.args.self.seats.items c.work_all.new.seats.items c.work_all.ensures.len c.work_all.ensures.seats
    ∙ seats_in_new c.args.self.rack c.args.self.seats.items ready.new
    ∙ ready.all

pub finish_all-requires-clause-desks : goal.finish_all-requires-clause-desks
finish_all-requires-clause-desks g c = subst (λ b. AllStand (world_in b.about.world) c.take_all-all.new.seat.view.seen c.take_all-all.result.items) (sym c.board-2.ensures) c.take_all-all.ensures.desks

pub returns : goal.returns
returns g c w same ready =
    let board = c.args.self.rack in
    let ds = c.finish_all.new.desks.items in
    let seen = c.finish_all.new.seat.view.seen in
    let o : Done = record { parties = c.args.self.parties; desks = c.finish_all.new.desks; cells = c.close-cells.result; steps = c.steps_in-steps.result } in
    let pool : IsPool c.args.plan.now board = record {
      same = ap (λ v. v.plan) ready.world ∙ same;
      whole = subst IsWhole (sym ready.world) ready.whole;
      slots = ready.slots ∙ ap (λ p. p.parties * length p.sessions) same;
    } in
    let taken : length c.take_all-all.result.items ≡ slots_of board.id = search rules in
    subst (λ v. IsOver v o) ready.world
    (over c.args.plan.now board pool seen o
    (c.finish_all.ensures.count ∙ taken)
    (subst (λ b. AllStand (world_in b.about.world) seen ds) c.board-2.ensures c.finish_all.ensures.desks)
    (subst (λ b. AllEnded (world_in b.about.world) ds) c.board-2.ensures c.finish_all.ensures.ended)
    (ready.parties ∙ ap (λ v. v.plan.parties) (sym ready.world))
    (subst (λ b. HasCells (words_of (world_in b.about.world)) c.close-cells.result) c.into_board.ensures c.close-cells.ensures.cells)
    (λ n v known. c.close-cells.ensures.seen n v
    (subst (λ l. KnownBy l n v) (sym (c.push_reserved.ensures.items ∙ ap (λ l. l ++ c.finish_all.new.seat ∷ []) ready.no_seat)) (inl known)))
    (c.steps_in-steps.ensures ∙ ap (λ l. total_over (λ (d : Desk). d.position) l) c.as_slice.ensures.value))
