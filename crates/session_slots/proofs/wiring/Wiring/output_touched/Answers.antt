use Rattle.std.proofs.Common.{◌+◌, length, refl, ap, arith}
use Rattle.session_slots.specs.Wirings.{session_in}
use Rattle.session_slots.proofs.WiringSlots.{output_is_touched, owners_count}
use Rattle.session_slots.proofs.wiring.Wiring.output_touched.Goals as goal

pub returns : goal.returns
returns c =
    let w = c.args.self.now in
    output_is_touched (session_in w) (length w.owners.items + length w.gates.items + c.args.o) c.args.o c.output_wire.result _ c.requires.wiring.wired c.requires.direct
    (omega (arith, c.requires.within, ap length c.requires.wiring.read)) (omega (arith, owners_count _ c.requires.wiring)) c.output_wire.ensures refl
