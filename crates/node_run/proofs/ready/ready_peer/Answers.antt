use Rattle.std.proofs.Common.{sym, ap, length, ◌∙◌}
use Rattle.inbox_board.specs.Seats.{InboxModel}
use Rattle.link_reader.specs.Expected.{TalkModel}
use Rattle.node_run.specs.Mail.{BoxModel}
use Rattle.node_run.specs.Remains.{ReaderPartsModel}
use Rattle.node_run.proofs.ready.ready_peer.Goals as goal

pub new-requires-2-clause-seat : goal.new-requires-2-clause-seat
new-requires-2-clause-seat c = c.in_ok-inbox.ensures.seats.1 ∙ ap (λ (b : InboxModel). b.id) (sym c.in_ok-inbox-2.ensures.ok)

pub new-requires-2-clause-reads : goal.new-requires-2-clause-reads
new-requires-2-clause-reads c = c.in_ok-inbox.ensures.reader

pub new-requires-3-clause-seat : goal.new-requires-3-clause-seat
new-requires-3-clause-seat c = c.in_ok-inbox.ensures.seats.0 ∙ ap (λ (b : InboxModel). b.id) (sym (c.in_ok-theirs.ensures ∙ c.in_ok-inbox-2.ensures.ok))

pub new-requires-3-clause-new : goal.new-requires-3-clause-new
new-requires-3-clause-new c = c.in_ok-inbox.ensures.writer

pub new-requires-3-clause-places : goal.new-requires-3-clause-places
new-requires-3-clause-places c =
    sym (ap (λ (b : InboxModel). b.places) (c.in_ok-theirs.ensures ∙ c.in_ok-inbox-2.ensures.ok) ∙ c.in_ok-inbox.ensures.places ∙ c.messages.ensures)

pub returns : goal.returns
returns c = record {
  places =
      ap (λ (b : BoxModel). b.places) c.new-2.ensures ∙ ap (λ (b : InboxModel). b.places) c.in_ok-inbox-2.ensures.ok ∙ c.in_ok-inbox.ensures.places ∙ c.messages.ensures
      ∙ ap (λ (t : TalkModel). length t.keys) c.in_ok-talk.ensures;
  view = ap (λ (b : BoxModel). b.view) c.new-2.ensures ∙ c.in_ok-inbox.ensures.reader;
  talk = ap (λ (r : ReaderPartsModel). r.talk) c.new-3.ensures ∙ c.in_ok-talk.ensures;
  id =
      ap (λ (r : ReaderPartsModel). r.id) c.new-3.ensures ∙ ap (λ (b : InboxModel). b.id) c.in_ok-theirs.ensures
      ∙ sym (ap (λ (b : BoxModel). b.id) c.new-2.ensures);
  waker = ap (λ (r : ReaderPartsModel). r.waker) c.new-3.ensures ∙ c.in_ok-waker.ensures;
}
