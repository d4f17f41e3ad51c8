use Rattle.std.proofs.Common.{ap, sym, ◌∙◌, subst}
use Rattle.node_talk.specs.PeerLinks.{place_among}
use Rattle.node_run.specs.Mail.{Mail, ComesFromPeer, LookedAtMark}
use Rattle.node_run.proofs.CellChanges.{before_as, with_boxes, looked_at_mark, notes_grow}
use Rattle.node_run.proofs.cells.NodeCells.mark.Goals as goal

pub peer_place-requires : goal.peer_place-requires
peer_place-requires g c = λ e.
    let may = subst (λ (z : Mail). ComesFromPeer z c.args.number) (sym c.self.view_is) c.requires in
    may.sender (sym (ap (λ z. z.sender) c.message-sender.ensures.is) ∙ e)

pub invariant_of-self : goal.invariant_of-self
invariant_of-self g c =
    let may = subst (λ (z : Mail). ComesFromPeer z c.args.number) (sym c.self.view_is) c.requires in
    with_boxes _ c.self.invariant c.args.number may c.peer_place.result (c.peer_place.ensures ∙ ap (λ z. place_among c.self.inside.me z.sender) c.message-sender.ensures.is) c.index_mut.result.now c.mark.new.self c.index_mut.ensures.value c.mark.ensures.same (notes_grow c.index_mut.result.now.view c.mark.new.self.view c.mark.new.self.view.noted c.mark.ensures.notes)

pub returns : goal.returns
returns g c =
    let may = subst (λ (z : Mail). ComesFromPeer z c.args.number) (sym c.self.view_is) c.requires in
    before_as (λ x y. LookedAtMark x c.args.number c.mark.result y) _ _ _ c.self.view_is
    (looked_at_mark _ c.self.invariant c.args.number may c.peer_place.result (c.peer_place.ensures ∙ ap (λ z. place_among c.self.inside.me z.sender) c.message-sender.ensures.is) c.index_mut.result.now c.mark.new.self c.index_mut.ensures.value c.mark.ensures.same (notes_grow c.index_mut.result.now.view c.mark.new.self.view c.mark.new.self.view.noted c.mark.ensures.notes)
    c.mark.result c.mark.ensures.notes c.mark.ensures.mark)
