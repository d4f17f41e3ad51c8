use Rattle.std.proofs.Common.{◌≡◌, ℕ, ◌+◌, ◌*◌, ◌<◌, ◌≤◌, ◌≢◌, ◌^◌, length, length-set, get_or, set, ap, sym, subst, ◌∙◌, ⊎_elim, arith}
use Rattle.std.specs.Prelude.{slice_get}
use Rattle.std.proofs.lemmas.Bool.{cases_eq}
use Rattle.std.proofs.lemmas.List.{set-get_or}
use Rattle.message_board.specs.Pairs.{Knows}
use Rattle.party_desk.specs.declared.desk.Desk.{Desk}
use Rattle.desk_laws.specs.Pools.{Stuck, left, left_all}
use Rattle.desk_laws.proofs.Elements.{by_place, stands_at}
use Rattle.desk_laws.proofs.StepCounts.{left_set}
use Rattle.desk_workers.specs.Promises.{world_in}
use Rattle.desk_workers.specs.Pools.{StandsInWorld}
use Rattle.desk_workers.proofs.BoardSteps.{stuck_less}
use Rattle.desk_workers.proofs.DeskLists.{all_set}
use Rattle.desk_workers.proofs.finish.round.Goals as goal

pub walk-moves-requires-clause-desk : goal.walk-moves-requires-clause-desk
walk-moves-requires-clause-desk c κs =
    let h = c.loop-i.invariant in
    let inside : c.loop-i.i < length c.loop-i.desks = (let a = h.3 in let b = c.loop-i-test.true in omega arith) in
    (c.loop-i.i, by_place (StandsInWorld (world_in c.args.board.now.about.world) c.loop-i.seat.view.seen) c.loop-i.desks h.2 c.loop-i.i c.index-desks-i.result inside)

pub loop-i-preserved : goal.loop-i-preserved
loop-i-preserved c =
    let w = world_in c.args.board.now.about.world in
    let h = c.loop-i.invariant in
    let i : ℕ = c.loop-i.i in
    let ds = c.loop-i.desks in
    let d0 : Desk = c.index-desks-i.result in
    let d : Desk = get_or ds i d0 in
    let e : Desk = c.walk-moves.new.desk in
    let inside : i < length ds = (let a = h.3 in let b = c.loop-i-test.true in omega arith) in
    let stands : StandsInWorld w c.loop-i.seat.view.seen i d = by_place (StandsInWorld w c.loop-i.seat.view.seen) ds h.2 i d0 inside in
    let lead = c.walk-moves.ensures.leads i stands in
    let count : c.walk-moves.result + left e ≡ left d = lead.counts in
    let sum : left_all (set ds i e) + left d ≡ left_all ds + left e = left_set ds i e d0 inside in
    let so_far : c.loop-i.moves + left_all ds ≡ left_all c.args.desks.now = h.4 in
    let bound : c.loop-i.moves ≤ i * 2 ^ 32 = h.5 in
    let few : c.walk-moves.result < 2 ^ 32 = c.walk-moves.ensures.few in (
      c.walk-moves.ensures.seat,
      (λ n v known. lead.grows n v (h.1 n v known)),
      all_set w c.loop-i.seat.view.seen c.walk-moves.new.seat.view.seen ds i e lead.grows inside lead.stands h.2,
      length-set ds i e ∙ h.3,
      omega arith,
      omega arith,
      (λ none. ap (set ds i) (lead.still (omega arith)) ∙ set-get_or ds i d0 ∙ h.6 (omega arith)),
      (λ none k d' less is. ⊎_elim
          (λ (q : k ≡ i).
          let same : d ≡ d' = ap (λ l. get_or l i d0) (h.6 (omega arith)) ∙ (stands_at c.args.desks.now i d' d0 (ap (slice_get c.args.desks.now) (sym q) ∙ is)).1 in
          subst (λ j. Stuck (Knows c.args.seat.now.view.seen) w j d'.position) (sym q)
          (subst (λ z. Stuck (Knows c.args.seat.now.view.seen) w i z.position) same
          (stuck_less c.args.seat.now.view.seen c.loop-i.seat.view.seen w i d.position h.1 (c.walk-moves.ensures.stuck (omega arith) i stands))))
          (λ (ne : k ≢ i). h.7 (omega arith) k d' (omega arith) is)
          (cases_eq k i)),
    )

pub returns-clause-stuck : goal.returns-clause-stuck
returns-clause-stuck c none k d is = c.loop-i.invariant.7 none k d (let inside = (stands_at c.args.desks.now k d d is).0 in let past = c.loop-i-test.false in omega arith) is
