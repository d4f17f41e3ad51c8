use Rattle.std.specs.Prelude.{length}
use Rattle.session_slots.specs.Wirings.{session_in}
use Rattle.session_slots.proofs.WiringSlots.{gate_is_touched, owners_count}
use Rattle.session_slots.proofs.wiring.Wiring.gate_touched.Goals as goal

pub returns : goal.returns
returns c =
    let w = c.args.self.now in
    let touched = c.touched_by.ensures in
    gate_is_touched (session_in w) (length w.owners.items) c.args.t c.index.result.now c.touched_by.result c.requires.wiring.wired c.requires.direct c.requires.within (owners_count _ c.requires.wiring) c.index.ensures touched.sets touched.fields touched.apart touched.third
