use Rattle.std.proofs.Common.{refl, arith}
use Rattle.session_slots.specs.Wirings.{session_in}
use Rattle.session_slots.proofs.WiringSlots.{input_is_touched, owners_count}
use Rattle.session_slots.proofs.wiring.Wiring.input_touched.Goals as goal

pub returns : goal.returns
returns c = input_is_touched (session_in c.args.self.now) c.args.v _ c.requires.direct (omega (arith, c.requires.within, owners_count _ c.requires.wiring)) refl
