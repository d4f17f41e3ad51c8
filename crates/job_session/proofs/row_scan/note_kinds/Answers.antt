use Rattle.std.proofs.Common.{◌<◌, ◌||◌, ap, sym, ◌∙◌, arith}
use Rattle.std.specs.Prelude.{nat_eq}
use Rattle.std.specs.List.{list_any}
use Rattle.std.proofs.lemmas.Bool.{or_right}
use Rattle.session_slots.specs.Sessions.{Slot, session_slots}
use Rattle.session_slots.specs.KeptWires.{reads_in}
use Rattle.session_slots.specs.Wirings.{session_in, is_named}
use Rattle.session_slots.proofs.SlotReads.{reads_within}
use Rattle.job_session.proofs.LastReads.{reads_noted}
use Rattle.job_session.proofs.row_scan.note_kinds.Goals as goal

pub note-requires-in-loop-k-2 : goal.note-requires-in-loop-k-2
note-requires-in-loop-k-2 c = λ w e.
    let s = session_in c.args.wiring.now in
    let read = c.reads-first.result in
    let within : c.loop-k.k < session_slots s = omega (arith, c.loop-k-test.true, c.slots-k-end.ensures) in
    let is = ap (λ (z : Slot). list_any (nat_eq w) (reads_in s z)) (sym c.slot_kind.ensures.is) ∙ c.reads-first.ensures w
    ∙ or_right (is_named read.0 w || is_named read.1 w) (is_named read.2 w) e in
    omega (arith, reads_within s c.loop-k.k w c.requires.wiring.wired within is, c.loop-k.invariant.wires, c.note.auto.last, c.note-in-loop-k.auto.last)

pub loop-k-preserved : goal.loop-k-preserved
loop-k-preserved c =
    let s = session_in c.args.wiring.now in
    let read = c.reads-first.result in
    reads_noted s c.loop-k.k read.0 read.1 read.2 c.loop-k.last c.note.new.last c.note-in-loop-k.new.last c.note-in-loop-k-2.new.last
    (λ w. ap (λ (z : Slot). list_any (nat_eq w) (reads_in s z)) (sym c.slot_kind.ensures.is) ∙ c.reads-first.ensures w)
    c.loop-k.invariant (c.note-in-loop-k-2.auto.last ∙ c.note-in-loop-k.auto.last ∙ c.note.auto.last)
    c.note.ensures c.note-in-loop-k.ensures c.note-in-loop-k-2.ensures
