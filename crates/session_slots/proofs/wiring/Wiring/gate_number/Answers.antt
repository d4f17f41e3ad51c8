use Rattle.std.proofs.Common.{◌≡◌, length, sym, ap, ◌∙◌, arith}
use Rattle.session_slots.specs.Sessions.{owners, session_slot}
use Rattle.session_slots.specs.Sessions.Slot.{At_gate}
use Rattle.session_slots.specs.Wirings.{session_in}
use Rattle.session_slots.proofs.WiringSlots.{direct_product, gate_has, owners_count}
use Rattle.session_slots.proofs.wiring.Wiring.gate_number.Goals as goal

pub overflow_sub-result : goal.overflow_sub-result
overflow_sub-result c =
    let s = session_in c.args.self.now in
    let at = direct_product s c.if-self.false c.args.slot c.requires.within (gate_has (session_slot s c.args.slot) c.requires.gate) in
    omega (arith, at.0, c.len.ensures, owners_count _ c.requires.wiring)

pub returns-clause-is : goal.returns-clause-is
returns-clause-is c =
    let s = session_in c.args.self.now in
    let at = direct_product s c.if-self.false c.args.slot c.requires.within (gate_has (session_slot s c.args.slot) c.requires.gate) in
    let inputs : c.len.result ≡ length (owners s) = omega (arith, c.len.ensures, owners_count _ c.requires.wiring) in
    ap (λ n. At_gate n) (omega (arith, inputs)) ∙ sym at.2

pub returns-clause-within : goal.returns-clause-within
returns-clause-within c =
    let s = session_in c.args.self.now in
    let at = direct_product s c.if-self.false c.args.slot c.requires.within (gate_has (session_slot s c.args.slot) c.requires.gate) in
    omega (arith, at.1, c.len.ensures, owners_count _ c.requires.wiring)
