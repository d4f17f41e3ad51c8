use Rattle.session_slots.specs.Wirings.{session_in}
use Rattle.session_slots.specs.SoundSessions.{slot_of_kind}
use Rattle.session_slots.proofs.WiringSlots.{kind_is_touched}
use Rattle.session_slots.proofs.wiring.Wiring.touched.Goals as goal

pub returns : goal.returns
returns c =
    let read = c.reads.result in
    let touched = c.touched_of.ensures in
    kind_is_touched (session_in c.args.self.now) c.args.k (slot_of_kind c.slot_kind-kind.result) c.sets.result read.0 read.1 read.2 c.touched_of.result
    c.requires.wiring.wired c.requires.within c.slot_kind-kind.ensures.is c.sets.ensures c.reads.ensures touched.sets touched.reads touched.second touched.third
