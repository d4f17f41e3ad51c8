use Rattle.std.proofs.Common.{ap, sym, ◌∙◌, subst}
use Rattle.node_talk.specs.PeerLinks.{place_among}
use Rattle.node_run.specs.Mail.{Mail, ComesFromPeer, Looked}
use Rattle.node_run.proofs.CellChanges.{before_as, with_boxes, looked, looks_grow, place_there}
use Rattle.node_run.proofs.cells.NodeCells.look.Goals as goal

pub peer_place-requires : goal.peer_place-requires
peer_place-requires g c = λ e.
    let may = subst (λ (z : Mail). ComesFromPeer z c.args.number) (sym c.self.view_is) c.requires in
    may.sender (sym (ap (λ z. z.sender) c.message-sender.ensures.is) ∙ e)

pub invariant_of-self : goal.invariant_of-self
invariant_of-self g c =
    let may = subst (λ (z : Mail). ComesFromPeer z c.args.number) (sym c.self.view_is) c.requires in
    with_boxes _ c.self.invariant c.args.number may c.peer_place.result (c.peer_place.ensures ∙ ap (λ z. place_among c.self.inside.me z.sender) c.message-sender.ensures.is) c.index_mut.result.now c.word.new.self c.index_mut.ensures.value c.word.ensures.same (looks_grow c.index_mut.result.now.view c.word.new.self.view c.index-place.result.now c.word.result c.word.ensures.looks)

pub returns : goal.returns
returns g c =
    let may = subst (λ (z : Mail). ComesFromPeer z c.args.number) (sym c.self.view_is) c.requires in
    before_as (λ x y. Looked x c.args.number c.word.result y) _ _ _ c.self.view_is
    (looked _ c.self.invariant c.args.number may c.peer_place.result (c.peer_place.ensures ∙ ap (λ z. place_among c.self.inside.me z.sender) c.message-sender.ensures.is) c.index_mut.result.now c.word.new.self c.index_mut.ensures.value c.word.ensures.same (looks_grow c.index_mut.result.now.view c.word.new.self.view c.index-place.result.now c.word.result c.word.ensures.looks)
    c.index-place.result.now (place_there _ c.self.invariant c.args.number may c.index-place.result.now c.index-place.ensures) c.word.result c.word.ensures.looks)
