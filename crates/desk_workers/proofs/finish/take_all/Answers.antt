use Rattle.std.proofs.Common.{◌≡◌, ◌+◌, [], ◌∷◌, ◌++◌, length, length-append, ap, sym, ◌∙◌, subst, ⊎_elim, arith}
use Rattle.message_board.specs.Pairs.{Knows, Has}
use Rattle.message_board.proofs.Pairs.{knows_left, knows_right}
use Rattle.party_desk.specs.declared.desk.Desk.{Desk}
use Rattle.desk_workers.specs.Promises.{world_in, posted_by}
use Rattle.desk_workers.specs.Pools.{StandsInWorld, AllStand}
use Rattle.desk_workers.proofs.PostedPairs.{stands, stands_more}
use Rattle.desk_laws.proofs.Elements.{by_place, by_element}
use Rattle.desk_workers.proofs.SeatLists.{each_more}
use Rattle.desk_workers.proofs.finish.take_all.Goals as goal

pub loop-slot-preserved : goal.loop-slot-preserved
loop-slot-preserved c =
    let h = c.loop-slot.invariant in
    let found = c.in-Some.ensures.found in
    let w = world_in c.args.rack.now.about.world in
    let ds = c.loop-slot.desks.items in
    let desk : Desk = c.in-Some.desk.value in
    let pairs = posted_by w desk in
    let before = c.loop-slot.seat.view.seen in
    let after = c.take.new.seat.view.seen in
    let items = c.push_reserved.ensures.items ∙ ap (λ d. ds ++ d ∷ []) c.into_inner.ensures in
    let len : length c.push_reserved.new.self.items ≡ length ds + 1 = ap length items ∙ length-append ds (desk ∷ []) in
    let place = h.3 in
    let all : AllStand w after ds = λ k d is. stands_more w before after k d (λ n x known. subst (λ v. Knows v.seen n x) (sym found.1) (knows_right pairs before n x known)) (h.5 k d is) in
    let one : StandsInWorld w after c.loop-slot.slot desk = stands w c.loop-slot.slot desk after found.0 (λ k x known. subst (λ v. Knows v.seen k x) (sym found.1) (knows_left pairs before k x known)) in (
      c.in-Some.ensures.seat,
      ap (λ v. v.seats) found.1 ∙ h.1,
      (λ j has. ⊎_elim (λ (e : c.loop-slot.slot ≡ j). let a = e in omega arith) (λ old. let l = h.2 j old in omega arith) (subst (λ v. Has v.out j) found.1 has)),
      (let a = place in omega arith),
      (let a = h.4 in let b = c.push_reserved.ensures.capacity in omega arith),
      subst (λ l. AllStand w after l) (sym items)
          (by_element (StandsInWorld w after) (ds ++ desk ∷ []) (each_more (StandsInWorld w after) ds desk (by_place (StandsInWorld w after) ds all) (subst (λ k. StandsInWorld w after k desk) (sym place) one))),
    )
