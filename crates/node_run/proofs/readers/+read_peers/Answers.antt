use Rattle.std.proofs.Common.{◌≡◌, true, vec_len, ◌⊎◌, ◌<◌, suc, List, ◌∷◌, length, map, drop, sym, ap, ◌∙◌, subst, arith}
use Rattle.std.specs.Prelude.{◌==◌}
use Rattle.std.proofs.lemmas.Bool.{cases_Bool}
use Rattle.std.proofs.Math.ListN.{length-map}
use mathlib.Core.Logic.{inl, inr}
use Rattle.inbox_board.specs.Rule.{newcomer}
use Rattle.inbox_board.specs.Seats.{SeatModel}
use Rattle.inbox_board.proofs.PushedWords.{pushed_pens}
use Rattle.link_reader.specs.Expected.{TalkModel}
use Rattle.link_reader.specs.ReadWords.{ReaderModel}
use Rattle.party_desk.specs.declared.desk.Desk.{Desk}
use Rattle.node_run.specs.Progress.{InOrder, Halted}
use Rattle.node_run.specs.Remains.{MayRun}
use Rattle.outer_io.specs.Inlet.{shut_inlet}
use Rattle.node_run.proofs.ReaderRuns.{none_left, whole_first, first_of_rest, HandedBack, refused_inlets, next_readers, all_ran, was_refused, has_read, has_refused, some_box, in_last, one_more}
use Rattle.node_run.proofs.readers.+read_peers.Goals as goal

pub returns-then-is_empty-clause-remained : goal.returns-then-is_empty-clause-remained
returns-then-is_empty-clause-remained g t c = λ n start place e h.
    let empty : (vec_len c.args.readers == 0) ≡ true = sym c.is_empty.ensures ∙ c.if-is_empty.true in
    let no_len : vec_len c.args.readers ≡ 0 = none_left (vec_len c.args.readers) empty in
    let none : length c.args.readers.items ≡ 0 = omega (arith, no_len) in
    let before = map g.I.Inlet.reading c.args.inlets.now.items in
    let short : length before ≡ 0 = omega (arith, length-map c.args.inlets.now.items g.I.Inlet.reading, c.requires.same, none) in
    let order : InOrder n 0 start c.as_mut_slice.result.now c.args.cells = subst (λ z. InOrder n 0 start z c.args.cells) (sym c.as_mut_slice.ensures.value) h.order in
    let many : length c.as_mut_slice.result.now ≡ length n.world.plan.sessions = ap (λ (z : List Desk). length z) c.as_mut_slice.ensures.value ∙ h.order.many in
    let ran : InOrder n (length n.world.plan.sessions) start c.run_sessions.new.desks c.run_sessions.new.cells ⊎ Halted n start c.run_sessions.new.cells =
    elim (cases_Bool c.run_sessions.result) [
      | inl ran ↦ inl (subst (λ k. InOrder n k start c.run_sessions.new.desks c.run_sessions.new.cells) many (c.run_sessions.ensures.ended n start e order ran))
      | inr short ↦ inr (c.run_sessions.ensures.halted n start e order short)
    ] in
    let long : length c.run_sessions.new.desks ≡ vec_len c.args.desks = omega (arith, c.run_sessions.auto.desks, c.as_mut_slice.ensures.len) in
    let whole = whole_first c.run_sessions.new.desks (drop (length c.run_sessions.new.desks) c.args.desks.items) (vec_len c.args.desks) long in
    let kept = subst (λ z. InOrder n (length n.world.plan.sessions) start z c.run_sessions.new.cells ⊎ Halted n start c.run_sessions.new.cells) (sym whole) ran in
    all_ran n start place c.args.readers.items c.args.desks.items _ c.args.cells c.run_sessions.new.cells before
    (g.W.Spawner.reading c.args.spawner.now) _ h none short kept c.of.ensures.mail c.run_sessions.ensures.out c.of.ensures.left

pub read_peers-remains-requires : goal.read_peers-remains-requires
read_peers-remains-requires g t c κs within =
    let r = c.requires.run in
    let some : 0 < length c.args.readers.items = omega (arith, c.remove-parts.ensures.len) in
    let next = next_readers r.0 r.1 r.2 c.args.readers.items c.remove-parts.result c.args.desks.items c.args.cells some c.remove-parts.ensures.value r.4 in
    let may : MayRun r.0 r.1 (suc r.2) c.remove-parts.new.self.items c.args.desks.items c.args.cells =
    subst (λ z. MayRun r.0 r.1 (suc r.2) z c.args.desks.items c.args.cells) (sym c.remove-parts.ensures.items) next.2 in (
      omega (arith, c.decreases, c.remove-parts.ensures.len),
      (
        within.0,
        (
          within.1.0,
          (
            within.1.1.0,
            (
              within.1.1.1.0,
              (
                within.1.1.1.1,
                (omega (arith, c.requires.same, c.remove-parts.ensures.len, c.remove.ensures.len), (r.0, r.1, suc r.2, r.3, may)),
              ),
            ),
          ),
        ),
      ),
    )

pub close-requires-clause-some : goal.close-requires-clause-some
close-requires-clause-some g t c =
    let r = c.requires.run in
    let some : 0 < length c.args.readers.items = omega (arith, c.remove-parts.ensures.len) in
    let next = next_readers r.0 r.1 r.2 c.args.readers.items c.remove-parts.result c.args.desks.items c.args.cells some c.remove-parts.ensures.value r.4 in
    let may : MayRun r.0 r.1 (suc r.2) c.remove-parts.new.self.items c.args.desks.items c.args.cells =
    subst (λ z. MayRun r.0 r.1 (suc r.2) z c.args.desks.items c.args.cells) (sym c.remove-parts.ensures.items) next.2 in
    some_box r.0 r.1 r.2 _ _ _ _ _ next.0 (c.read_peers-remains.ensures.remained r.0 r.1 (suc r.2) r.3 may)

pub close-requires-clause-seat : goal.close-requires-clause-seat
close-requires-clause-seat g t c =
    let r = c.requires.run in
    let some : 0 < length c.args.readers.items = omega (arith, c.remove-parts.ensures.len) in
    let next = next_readers r.0 r.1 r.2 c.args.readers.items c.remove-parts.result c.args.desks.items c.args.cells some c.remove-parts.ensures.value r.4 in
    let may : MayRun r.0 r.1 (suc r.2) c.remove-parts.new.self.items c.args.desks.items c.args.cells =
    subst (λ z. MayRun r.0 r.1 (suc r.2) z c.args.desks.items c.args.cells) (sym c.remove-parts.ensures.items) next.2 in
    let read = (has_read g.W.Spawner.may_end _ _ c.with-reader.result c.finish.result _ c.in-Ok.started c.in-Ok.is c.start.ensures c.with-reader.ensures.outcome c.finish.ensures.end).0 in
    in_last r.0 r.1 r.2 _ _ _ _ _ _ next.0 (c.read_peers-remains.ensures.remained r.0 r.1 (suc r.2) r.3 may)
    (ap (λ (z : SeatModel). z.id) c.into_parts-inlet-in-Ok.ensures.seat ∙ ap (λ (z : ReaderModel). z.seat.id) read.leaves ∙ c.with-reader.ensures.seat.0 ∙ next.1.id)

pub close-requires-clause-writes : goal.close-requires-clause-writes
close-requires-clause-writes g t c =
    let read = (has_read g.W.Spawner.may_end _ _ c.with-reader.result c.finish.result _ c.in-Ok.started c.in-Ok.is c.start.ensures c.with-reader.ensures.outcome c.finish.ensures.end).0 in
    ap (λ (z : SeatModel). z.view.pens) c.into_parts-inlet-in-Ok.ensures.seat ∙ ap (λ (z : ReaderModel). z.seat.view.pens) read.leaves ∙ pushed_pens (newcomer 1) read.words

pub returns-in-Err-clause-remained : goal.returns-in-Err-clause-remained
returns-in-Err-clause-remained g t c = λ n start place e h.
    let some : 0 < length c.args.readers.items = omega (arith, c.remove-parts.ensures.len) in
    let next = next_readers n start place c.args.readers.items c.remove-parts.result c.args.desks.items c.args.cells some c.remove-parts.ensures.value h in
    let refused = has_refused g.W.Spawner.may_end _ _ c.with-reader.result c.in-Err.back _ c.in-Err.is c.start.ensures c.with-reader.ensures.outcome in
    let more : 0 < length c.args.inlets.now.items = omega (arith, c.requires.same, some) in
    let was : map g.I.Inlet.reading c.args.inlets.now.items ≡ g.I.Inlet.reading c.remove.result ∷ map g.I.Inlet.reading c.remove.new.self.items =
    ap (map g.I.Inlet.reading) (first_of_rest c.args.inlets.now.items c.remove.result more c.remove.ensures.value ∙ ap (λ z. c.remove.result ∷ z) (sym c.remove.ensures.items)) in
    let read = g.I.Inlet.reading in
    let rest = map read c.remove.new.self.items in
    let back = read c.into_parts-inlet.result.0 in
    let slice : map read c.as_mut_slice-in-Err.result.now ≡ back ∷ rest = ap (map read) (c.as_mut_slice-in-Err.ensures.value ∙ c.put_first.ensures.items) in
    let long : length c.close_inlets.new.inlets ≡ vec_len c.put_first.new.inlets = omega (arith, c.close_inlets.auto.inlets, c.as_mut_slice-in-Err.ensures.len) in
    let whole = whole_first c.close_inlets.new.inlets (drop (length c.close_inlets.new.inlets) c.put_first.new.inlets.items) (vec_len c.put_first.new.inlets) long in
    let now = ap (map read) whole ∙ c.close_inlets.ensures ∙ ap (map shut_inlet) slice in
    let did = subst (λ talk. HandedBack talk (read c.remove.result) back) (c.with-reader.ensures.talk ∙ next.1.talk)
    (subst (λ z. HandedBack c.with-reader.result.talk z back) c.with-reader.ensures.inlet (subst (λ z. HandedBack c.with-reader.result.talk c.with-reader.result.inlet z) (sym c.into_parts-inlet.ensures.inlet) (refused.1, refused.2))) in
    let all = refused_inlets n place c.peer-peer.result (read c.remove.result) back rest _ _ was now did in
    was_refused n start place c.args.readers.items c.args.desks.items c.args.cells _ _ _ _ c.peer-peer.result _ _ h some (omega (arith, c.len-waiting.ensures))
    (c.peer-peer.ensures ∙ ap (λ (z : TalkModel). z.peer) next.1.talk) (ap (λ z. length z) now ∙ length-map (back ∷ rest) shut_inlet ∙ sym (ap (λ z. length z) was)) all.0 all.1 all.2 refused.0 c.of-in-Err.ensures.mail c.of-in-Err.ensures.left

pub returns-in-Ok-clause-remained : goal.returns-in-Ok-clause-remained
returns-in-Ok-clause-remained g t c = λ n start place e h.
    let some : 0 < length c.args.readers.items = omega (arith, c.remove-parts.ensures.len) in
    let next = next_readers n start place c.args.readers.items c.remove-parts.result c.args.desks.items c.args.cells some c.remove-parts.ensures.value h in
    let may : MayRun n start (suc place) c.remove-parts.new.self.items c.args.desks.items c.args.cells =
    subst (λ z. MayRun n start (suc place) z c.args.desks.items c.args.cells) (sym c.remove-parts.ensures.items) next.2 in
    let both = has_read g.W.Spawner.may_end _ _ c.with-reader.result c.finish.result _ c.in-Ok.started c.in-Ok.is c.start.ensures c.with-reader.ensures.outcome c.finish.ensures.end in
    let more : 0 < length c.args.inlets.now.items = omega (arith, c.requires.same, some) in
    let was : map g.I.Inlet.reading c.args.inlets.now.items ≡ g.I.Inlet.reading c.remove.result ∷ map g.I.Inlet.reading c.remove.new.self.items =
    ap (map g.I.Inlet.reading) (first_of_rest c.args.inlets.now.items c.remove.result more c.remove.ensures.value ∙ ap (λ z. c.remove.result ∷ z) (sym c.remove.ensures.items)) in
    let now : map g.I.Inlet.reading c.put_first-in-Ok.new.inlets.items ≡ g.I.Inlet.reading c.into_parts-inlet-in-Ok.result.0 ∷ map g.I.Inlet.reading c.read_peers-remains.new.inlets.items =
    ap (map g.I.Inlet.reading) c.put_first-in-Ok.ensures.items in
    one_more n start place (map g.I.Inlet.reading c.remove.new.self.items) (map g.I.Inlet.reading c.read_peers-remains.new.inlets.items)
    (g.I.Inlet.reading c.remove.result) (g.I.Inlet.reading c.into_parts-inlet-in-Ok.result.0)
    (g.W.Spawner.reading c.args.spawner.now) (g.W.Spawner.reading c.start.new.self) (g.W.Spawner.reading c.read_peers-remains.new.spawner) (g.W.Spawner.reading c.finish.new.self)
    _ _ c.into_parts-inlet-in-Ok.result.2 c.with-reader.result c.finish.result _ _ was now
    next.0 (c.with-reader.ensures.talk ∙ next.1.talk) c.with-reader.ensures.inlet both.0 c.into_parts-inlet-in-Ok.ensures.inlet c.into_parts-inlet-in-Ok.ensures.outcome
    both.1 both.2 c.finish.ensures.same (c.read_peers-remains.ensures.remained n start (suc place) e may)
    (λ words mark v. c.close.ensures.got words mark (ap (λ (z : SeatModel). z.view) c.into_parts-inlet-in-Ok.ensures.seat ∙ v)) c.close.ensures.rest
