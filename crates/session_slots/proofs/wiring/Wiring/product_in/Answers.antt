use Rattle.std.proofs.Common.{◌≡◌, ◌-◌, ◌<◌, length, sym, ap, ◌∙◌, arith}
use Rattle.std.proofs.lemmas.List.{get_or_default}
use Rattle.session_slots.specs.Sessions.{gate, no_gate, owners, product_in}
use Rattle.session_slots.specs.Wirings.{session_in}
use Rattle.session_slots.proofs.WiringSlots.{direct_product, owners_count}
use Rattle.session_slots.proofs.wiring.Wiring.product_in.Goals as goal

pub overflow_sub-slot : goal.overflow_sub-slot
overflow_sub-slot c =
    let at = direct_product (session_in c.args.self.now) c.if-self.false c.args.slot c.requires.within c.requires.product in
    omega (arith, at.0, c.len.ensures, owners_count _ c.requires.wiring)

pub index-requires : goal.index-requires
index-requires c =
    let at = direct_product (session_in c.args.self.now) c.if-self.false c.args.slot c.requires.within c.requires.product in
    omega (arith, at.1, c.len.ensures, owners_count _ c.requires.wiring)

pub returns : goal.returns
returns c =
    let s = session_in c.args.self.now in
    let at = direct_product s c.if-self.false c.args.slot c.requires.within c.requires.product in
    let same : c.args.slot - c.len.result ≡ c.args.slot - length (owners s) = omega (arith, c.len.ensures, owners_count _ c.requires.wiring) in
    let within : c.args.slot - c.len.result < length s.gates = omega (arith, same, at.1) in
    c.index.ensures ∙ sym (get_or_default s.gates (c.args.slot - c.len.result) no_gate c.index.result.now within) ∙ ap (gate s) same ∙ sym (ap (product_in s) at.2)
