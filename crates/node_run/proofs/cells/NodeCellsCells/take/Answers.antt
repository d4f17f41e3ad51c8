use Rattle.std.proofs.Common.{◌≡◌, ap, sym, ◌∙◌, subst, length, Some, None}
use Rattle.std.specs.Prelude.{◌%◌, ◌^◌, slice_index}
use Rattle.message_board.specs.Pairs.{Knows}
use Rattle.message_board.specs.Plain.{plain_cell, plain_put}
use Rattle.plan_model.specs.Numbers.{message}
use Rattle.node_run.specs.Mail.{Mail, ComesFromPeer, MayTake, TakesWord, box_of}
use Rattle.node_run.proofs.CellChanges.{missing_peer, still_may, words_stay, looked_may, looked_known, is_read, cells_are, with_word, word_kept, word_count, takes_found, no_word}
use Rattle.node_run.proofs.cells.NodeCellsCells.take.Goals as goal

pub invariant_of-self : goal.invariant_of-self
invariant_of-self g c =
    let may = subst (λ (z : Mail). ComesFromPeer z c.args.number) (sym c.self-2.view_is) (looked_may c.args.self.now c.look.new.self c.args.number _ c.in-Some-look.ensures (missing_peer c.args.self.now c.args.number c.requires (ap (λ (z : Mail). plain_cell z.words.cells c.args.number) (sym c.self.view_is) ∙ sym c.cell.ensures.is ∙ no_word c.cell.result c.in_default.not-Some))) in
    let known = subst (λ (z : Mail). Knows (box_of z (message z.plan c.args.number).sender).view.seen (slice_index z.places c.args.number) c.in-Some-look.found) (sym c.self-2.view_is) (looked_known c.args.self.now c.look.new.self c.args.number c.in-Some-look.found c.in-Some-look.ensures) in
    let reduced : c.reduce-reduced.result ≡ c.in-Some-look.found % 2 ^ c.self-2.inside.plan.now.bits = c.reduce-reduced.ensures.is ∙ ap (λ b. c.in-Some-look.found % 2 ^ b) c.ring.ensures.is in
    with_word _ c.self-2.invariant c.args.number c.reduce-reduced.result may.there (is_read _ c.args.number c.in-Some-look.found c.reduce-reduced.result may known reduced) c.post.new.self c.post.ensures.put.0

pub returns-clause-took : goal.returns-clause-took
returns-clause-took g c =
    let may = subst (λ (z : Mail). ComesFromPeer z c.args.number) (sym c.self-2.view_is) (looked_may c.args.self.now c.look.new.self c.args.number _ c.in-Some-look.ensures (missing_peer c.args.self.now c.args.number c.requires (ap (λ (z : Mail). plain_cell z.words.cells c.args.number) (sym c.self.view_is) ∙ sym c.cell.ensures.is ∙ no_word c.cell.result c.in_default.not-Some))) in
    let known = subst (λ (z : Mail). Knows (box_of z (message z.plan c.args.number).sender).view.seen (slice_index z.places c.args.number) c.in-Some-look.found) (sym c.self-2.view_is) (looked_known c.args.self.now c.look.new.self c.args.number c.in-Some-look.found c.in-Some-look.ensures) in
    let reduced : c.reduce-reduced.result ≡ c.in-Some-look.found % 2 ^ c.self-2.inside.plan.now.bits = c.reduce-reduced.ensures.is ∙ ap (λ b. c.in-Some-look.found % 2 ^ b) c.ring.ensures.is in
    let empty : plain_cell c.self-2.inside.words.cells c.args.number ≡ None =
    ap (λ (z : Mail). plain_cell z.words.cells c.args.number) (c.self-2.view_is ∙ c.in-Some-look.ensures.rest) ∙ ap (λ (z : Mail). plain_cell z.words.cells c.args.number) (sym c.self.view_is) ∙ sym c.cell.ensures.is ∙ no_word c.cell.result c.in_default.not-Some in
    subst (λ (z : Mail). TakesWord c.args.self.now c.args.number (Some c.reduce-reduced.result) (record z { words = c.post.new.self })) (sym c.self-2.view_is)
    (takes_found c.args.self.now c.look.new.self c.args.number c.in-Some-look.found c.reduce-reduced.result c.post.new.self
    (ap (λ (z : Mail). plain_cell z.words.cells c.args.number) (sym c.self.view_is) ∙ sym c.cell.ensures.is ∙ no_word c.cell.result c.in_default.not-Some)
    (reduced ∙ ap (λ (z : Mail). c.in-Some-look.found % 2 ^ z.plan.bits) (c.self-2.view_is ∙ c.in-Some-look.ensures.rest)) c.in-Some-look.ensures
    (word_count _ c.self-2.invariant c.args.number c.reduce-reduced.result may.there (is_read _ c.args.number c.in-Some-look.found c.reduce-reduced.result may known reduced) c.post.new.self c.post.ensures.put.0 ∙ ap (λ (z : Mail). length z.words.cells) c.self-2.view_is)
    (word_kept _ c.self-2.invariant c.args.number c.reduce-reduced.result may.there (is_read _ c.args.number c.in-Some-look.found c.reduce-reduced.result may known reduced) c.post.new.self c.post.ensures.put.0 empty)
    (cells_are _ c.self-2.invariant c.args.number c.reduce-reduced.result may.there (is_read _ c.args.number c.in-Some-look.found c.reduce-reduced.result may known reduced) c.post.new.self c.post.ensures.put.0 ∙ ap (λ (z : Mail). plain_put z.words.cells c.args.number c.reduce-reduced.result) c.self-2.view_is))

pub returns-clause-given : goal.returns-clause-given
returns-clause-given g c =
    let may = subst (λ (z : Mail). ComesFromPeer z c.args.number) (sym c.self-2.view_is) (looked_may c.args.self.now c.look.new.self c.args.number _ c.in-Some-look.ensures (missing_peer c.args.self.now c.args.number c.requires (ap (λ (z : Mail). plain_cell z.words.cells c.args.number) (sym c.self.view_is) ∙ sym c.cell.ensures.is ∙ no_word c.cell.result c.in_default.not-Some))) in
    let known = subst (λ (z : Mail). Knows (box_of z (message z.plan c.args.number).sender).view.seen (slice_index z.places c.args.number) c.in-Some-look.found) (sym c.self-2.view_is) (looked_known c.args.self.now c.look.new.self c.args.number c.in-Some-look.found c.in-Some-look.ensures) in
    let reduced : c.reduce-reduced.result ≡ c.in-Some-look.found % 2 ^ c.self-2.inside.plan.now.bits = c.reduce-reduced.ensures.is ∙ ap (λ b. c.in-Some-look.found % 2 ^ b) c.ring.ensures.is in
    let empty : plain_cell c.self-2.inside.words.cells c.args.number ≡ None =
    ap (λ (z : Mail). plain_cell z.words.cells c.args.number) (c.self-2.view_is ∙ c.in-Some-look.ensures.rest) ∙ ap (λ (z : Mail). plain_cell z.words.cells c.args.number) (sym c.self.view_is) ∙ sym c.cell.ensures.is ∙ no_word c.cell.result c.in_default.not-Some in
    word_kept _ c.self-2.invariant c.args.number c.reduce-reduced.result may.there (is_read _ c.args.number c.in-Some-look.found c.reduce-reduced.result may known reduced) c.post.new.self c.post.ensures.put.0 empty

pub returns-clause-may_take : goal.returns-clause-may_take
returns-clause-may_take g c = λ r takes.
    let may = subst (λ (z : Mail). ComesFromPeer z c.args.number) (sym c.self-2.view_is) (looked_may c.args.self.now c.look.new.self c.args.number _ c.in-Some-look.ensures (missing_peer c.args.self.now c.args.number c.requires (ap (λ (z : Mail). plain_cell z.words.cells c.args.number) (sym c.self.view_is) ∙ sym c.cell.ensures.is ∙ no_word c.cell.result c.in_default.not-Some))) in
    let known = subst (λ (z : Mail). Knows (box_of z (message z.plan c.args.number).sender).view.seen (slice_index z.places c.args.number) c.in-Some-look.found) (sym c.self-2.view_is) (looked_known c.args.self.now c.look.new.self c.args.number c.in-Some-look.found c.in-Some-look.ensures) in
    let reduced : c.reduce-reduced.result ≡ c.in-Some-look.found % 2 ^ c.self-2.inside.plan.now.bits = c.reduce-reduced.ensures.is ∙ ap (λ b. c.in-Some-look.found % 2 ^ b) c.ring.ensures.is in
    subst (λ (z : Mail). MayTake (record z { words = c.post.new.self }) r) (sym c.self-2.view_is)
    (still_may c.args.self.now c.look.new.self c.args.number _ c.in-Some-look.ensures r takes c.post.new.self (λ x e.
    words_stay _ c.self-2.invariant c.args.number c.reduce-reduced.result may.there (is_read _ c.args.number c.in-Some-look.found c.reduce-reduced.result may known reduced) c.post.new.self c.post.ensures.put.0 r x
    (ap (λ (z : Mail). plain_cell z.words.cells r) (c.self-2.view_is ∙ c.in-Some-look.ensures.rest) ∙ e)))
