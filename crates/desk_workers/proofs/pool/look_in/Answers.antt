use Rattle.std.proofs.Common.{◌≡◌, ◌∷◌, [], ap, sym, subst, ◌∙◌}
use Rattle.message_board.specs.Pairs.{Knows}
use Rattle.message_board.specs.Rule.{others}
use Rattle.message_board.proofs.Pairs.{knows_left}
use Rattle.desk_workers.specs.Promises.{world_in, posted_by}
use Rattle.desk_workers.specs.Pools.{IsPool, IsDeskOf, StandsInWorld, Leads, LeadsOn}
use Rattle.desk_workers.proofs.PostedPairs.{stands, covers}
use Rattle.desk_workers.proofs.pool.look_in.Goals as goal

pub walk-moves-requires-clause-pool : goal.walk-moves-requires-clause-pool
walk-moves-requires-clause-pool g c κs within = subst (IsPool c.args.plan.now) (sym c.board.ensures) c.requires.pool

pub walk-moves-requires-clause-desk : goal.walk-moves-requires-clause-desk
walk-moves-requires-clause-desk g c κs within =
    let w = world_in c.args.rack.now.about.world in
    let found = c.in-Some.ensures.found in
    let start : StandsInWorld w c.take.new.seat.view.seen c.args.turn.desk c.deref_mut.result.now =
    subst (StandsInWorld w c.take.new.seat.view.seen c.args.turn.desk) (sym c.deref_mut.ensures.value)
    (stands w c.args.turn.desk c.in-Some.desk.value c.take.new.seat.view.seen found.0 (λ k x known. subst (λ v. Knows v.seen k x) (sym found.1) (knows_left (posted_by w c.in-Some.desk.value) c.args.seat.now.view.seen k x known))) in
    subst (λ b. IsDeskOf b c.take.new.seat c.deref_mut.result.now) (sym c.board.ensures) (c.args.turn.desk, start)

pub put-requires-clause-held : goal.put-requires-clause-held
put-requires-clause-held g c =
    let w = world_in c.args.rack.now.about.world in
    let found = c.in-Some.ensures.found in
    let start : StandsInWorld w c.take.new.seat.view.seen c.args.turn.desk c.deref_mut.result.now =
    subst (StandsInWorld w c.take.new.seat.view.seen c.args.turn.desk) (sym c.deref_mut.ensures.value)
    (stands w c.args.turn.desk c.in-Some.desk.value c.take.new.seat.view.seen found.0 (λ k x known. subst (λ v. Knows v.seen k x) (sym found.1) (knows_left (posted_by w c.in-Some.desk.value) c.args.seat.now.view.seen k x known))) in
    let lead : Leads w c.args.turn.desk c.take.new.seat c.deref_mut.result.now c.walk-moves.new.seat c.walk-moves.new.desk c.walk-moves.result =
    subst (λ b. LeadsOn b c.take.new.seat c.deref_mut.result.now c.walk-moves.new.seat c.walk-moves.new.desk c.walk-moves.result) c.board.ensures c.walk-moves.ensures.leads c.args.turn.desk start in
    let out : c.walk-moves.new.seat.view.out ≡ c.args.turn.desk ∷ [] = lead.out ∙ ap (λ v. v.out) found.1 ∙ ap (λ l. c.args.turn.desk ∷ l) c.requires.seat.1 in
    out ∙ sym (ap (λ l. c.args.turn.desk ∷ others l) out)

pub put-requires-clause-good : goal.put-requires-clause-good
put-requires-clause-good g c =
    let w = world_in c.args.rack.now.about.world in
    let found = c.in-Some.ensures.found in
    let start : StandsInWorld w c.take.new.seat.view.seen c.args.turn.desk c.deref_mut.result.now =
    subst (StandsInWorld w c.take.new.seat.view.seen c.args.turn.desk) (sym c.deref_mut.ensures.value)
    (stands w c.args.turn.desk c.in-Some.desk.value c.take.new.seat.view.seen found.0 (λ k x known. subst (λ v. Knows v.seen k x) (sym found.1) (knows_left (posted_by w c.in-Some.desk.value) c.args.seat.now.view.seen k x known))) in
    let lead : Leads w c.args.turn.desk c.take.new.seat c.deref_mut.result.now c.walk-moves.new.seat c.walk-moves.new.desk c.walk-moves.result =
    subst (λ b. LeadsOn b c.take.new.seat c.deref_mut.result.now c.walk-moves.new.seat c.walk-moves.new.desk c.walk-moves.result) c.board.ensures c.walk-moves.ensures.leads c.args.turn.desk start in
    lead.stands.desk

pub put-requires-clause-posts : goal.put-requires-clause-posts
put-requires-clause-posts g c =
    let w = world_in c.args.rack.now.about.world in
    let found = c.in-Some.ensures.found in
    let start : StandsInWorld w c.take.new.seat.view.seen c.args.turn.desk c.deref_mut.result.now =
    subst (StandsInWorld w c.take.new.seat.view.seen c.args.turn.desk) (sym c.deref_mut.ensures.value)
    (stands w c.args.turn.desk c.in-Some.desk.value c.take.new.seat.view.seen found.0 (λ k x known. subst (λ v. Knows v.seen k x) (sym found.1) (knows_left (posted_by w c.in-Some.desk.value) c.args.seat.now.view.seen k x known))) in
    let lead : Leads w c.args.turn.desk c.take.new.seat c.deref_mut.result.now c.walk-moves.new.seat c.walk-moves.new.desk c.walk-moves.result =
    subst (λ b. LeadsOn b c.take.new.seat c.deref_mut.result.now c.walk-moves.new.seat c.walk-moves.new.desk c.walk-moves.result) c.board.ensures c.walk-moves.ensures.leads c.args.turn.desk start in
    covers w c.args.turn.desk c.walk-moves.new.desk c.walk-moves.new.seat.view.seen lead.stands

pub returns-clause-seat : goal.returns-clause-seat
returns-clause-seat g c =
    let w = world_in c.args.rack.now.about.world in
    let found = c.in-Some.ensures.found in
    let start : StandsInWorld w c.take.new.seat.view.seen c.args.turn.desk c.deref_mut.result.now =
    subst (StandsInWorld w c.take.new.seat.view.seen c.args.turn.desk) (sym c.deref_mut.ensures.value)
    (stands w c.args.turn.desk c.in-Some.desk.value c.take.new.seat.view.seen found.0 (λ k x known. subst (λ v. Knows v.seen k x) (sym found.1) (knows_left (posted_by w c.in-Some.desk.value) c.args.seat.now.view.seen k x known))) in
    let lead : Leads w c.args.turn.desk c.take.new.seat c.deref_mut.result.now c.walk-moves.new.seat c.walk-moves.new.desk c.walk-moves.result =
    subst (λ b. LeadsOn b c.take.new.seat c.deref_mut.result.now c.walk-moves.new.seat c.walk-moves.new.desk c.walk-moves.result) c.board.ensures c.walk-moves.ensures.leads c.args.turn.desk start in
    let out : c.walk-moves.new.seat.view.out ≡ c.args.turn.desk ∷ [] = lead.out ∙ ap (λ v. v.out) found.1 ∙ ap (λ l. c.args.turn.desk ∷ l) c.requires.seat.1 in
    (c.put.ensures.seat, ap (λ v. v.out) c.put.ensures.view ∙ ap others out)

pub returns-clause-seats : goal.returns-clause-seats
returns-clause-seats g c =
    let w = world_in c.args.rack.now.about.world in
    let found = c.in-Some.ensures.found in
    let start : StandsInWorld w c.take.new.seat.view.seen c.args.turn.desk c.deref_mut.result.now =
    subst (StandsInWorld w c.take.new.seat.view.seen c.args.turn.desk) (sym c.deref_mut.ensures.value)
    (stands w c.args.turn.desk c.in-Some.desk.value c.take.new.seat.view.seen found.0 (λ k x known. subst (λ v. Knows v.seen k x) (sym found.1) (knows_left (posted_by w c.in-Some.desk.value) c.args.seat.now.view.seen k x known))) in
    let lead : Leads w c.args.turn.desk c.take.new.seat c.deref_mut.result.now c.walk-moves.new.seat c.walk-moves.new.desk c.walk-moves.result =
    subst (λ b. LeadsOn b c.take.new.seat c.deref_mut.result.now c.walk-moves.new.seat c.walk-moves.new.desk c.walk-moves.result) c.board.ensures c.walk-moves.ensures.leads c.args.turn.desk start in
    ap (λ v. v.seats) c.put.ensures.view ∙ lead.seats ∙ ap (λ v. v.seats) found.1
