use Rattle.std.proofs.Common.{◌≡◌, ◌<◌, ◌+◌, [], ◌∷◌, ◌++◌, length, refl, sym, ap, ◌∙◌, subst, arith, length-append}
use Rattle.frame_code.specs.Frames.{frame}
use Rattle.inbox_board.specs.Rule.{newcomer, pushes}
use Rattle.inbox_board.proofs.PushedWords.{pushed_pens, pushed_ended, pushed_length, pushed_more}
use Rattle.link_reader.specs.Expected.{framing_of, key_at}
use Rattle.link_reader.specs.Heard.{Gave}
use Rattle.link_reader.specs.Wakers.{gives}
use Rattle.link_reader.proofs.Tokens.{gives_none, gives_more}
use Rattle.link_reader.proofs.RowsOfFrames.{hello_came, came_more, stays_steady}
use Rattle.link_reader.proofs.read_words.read_all.Goals as goal

pub loop-place-init : goal.loop-place-init
loop-place-init g c = record { seat = refl; read = ([], refl, hello_came _ _ _ c.in-Ok.ensures.meets, c.requires.new, gives_none _); steady = c.meet.ensures.steady }

pub push-requires-clause-writes : goal.push-requires-clause-writes
push-requires-clause-writes g c =
    let h = c.loop-place.invariant.read in
    (ap (λ v. v.pens) h.3 ∙ pushed_pens (newcomer 1) h.0, ap (λ v. v.ended) h.3 ∙ pushed_ended (newcomer 1) h.0)

pub push-requires-clause-free : goal.push-requires-clause-free
push-requires-clause-free g c =
    let h = c.loop-place.invariant.read in
    let a : c.loop-place.seat.view.length ≡ 0 + length h.0 = ap (λ v. v.length) h.3 ∙ pushed_length (newcomer 1) h.0 in
    let keys : length c.talk.inside.keys.items ≡ length c.args.talk.now.keys = ap (λ t. length t.keys) c.talk.view_is in
    omega (arith, a, h.1, keys, c.requires.places, c.loop-place-test.true, c.len-place-end.ensures)

pub loop-place-preserved : goal.loop-place-preserved
loop-place-preserved g c =
    let h = c.loop-place.invariant.read in
    let e = c.in-Ok-hear.ensures.hears in
    let keys : length c.talk.inside.keys.items ≡ length c.args.talk.now.keys = ap (λ t. length t.keys) c.talk.view_is in
    let few : length h.0 < length c.args.talk.now.keys = omega (arith, h.1, keys, c.loop-place-test.true, c.len-place-end.ensures) in
    let gave : Gave (frame (framing_of c.args.talk.now) (key_at c.args.talk.now (length h.0)) c.in-Ok-hear.word) (g.I.Inlet.reading c.loop-place.inlet) (g.I.Inlet.reading c.hear.new.inlet) =
    subst (λ z. Gave (frame (framing_of c.args.talk.now) (key_at c.args.talk.now z) c.in-Ok-hear.word) (g.I.Inlet.reading c.loop-place.inlet) (g.I.Inlet.reading c.hear.new.inlet)) (sym h.1) e.1 in
    record {
      seat = c.push.ensures.seat ∙ sym c.requires.seat;
      read = (
        h.0 ++ c.in-Ok-hear.word ∷ [],
        length-append h.0 (c.in-Ok-hear.word ∷ []) ∙ ap (λ z. z + 1) h.1,
        came_more _ h.0 _ _ _ _ h.2 few e.0 gave,
        c.push.ensures.view ∙ ap (λ v. pushes v c.in-Ok-hear.word) h.3 ∙ sym (pushed_more (newcomer 1) h.0 c.in-Ok-hear.word),
        c.wake.ensures ∙ ap (λ w. gives w 1) h.4 ∙ gives_more _ (length h.0) (length (h.0 ++ c.in-Ok-hear.word ∷ [])) (length-append h.0 (c.in-Ok-hear.word ∷ [])),
      );
      steady = stays_steady _ _ _ c.loop-place.invariant.steady c.hear.ensures.steady;
    }
