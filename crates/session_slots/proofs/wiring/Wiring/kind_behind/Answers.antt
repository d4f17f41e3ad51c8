use Rattle.std.proofs.Common.{◌≡◌, ◌+◌, ◌-◌, ◌<◌, length, sym, ap, ◌∙◌, arith}
use Rattle.session_slots.specs.Sessions.{owners, readers, session_slot}
use Rattle.session_slots.specs.Wirings.{session_in}
use Rattle.session_slots.proofs.SessionSlots.{slot_output, slot_kept}
use Rattle.session_slots.proofs.WiringSlots.{owners_count}
use Rattle.session_slots.proofs.wiring.Wiring.kind_behind.Goals as goal

pub returns-then-place-outputs-clause-is : goal.returns-then-place-outputs-clause-is
returns-then-place-outputs-clause-is c =
    let s = session_in c.args.self.now in
    let wiring = c.requires.wiring in
    let here : length (owners s) + length s.gates + c.args.place ≡ length c.args.self.now.owners.items + length s.gates + c.args.place = omega (arith, owners_count _ wiring) in
    let within : c.args.place < length (readers s) = omega (arith, c.if-place-outputs.true, c.len-outputs.ensures, ap length wiring.read) in
    sym (ap (session_slot s) (sym here) ∙ slot_output s c.requires.direct c.args.place within)

pub returns-then-place-outputs-clause-inside : goal.returns-then-place-outputs-clause-inside
returns-then-place-outputs-clause-inside c = omega (arith, c.if-place-outputs.true, c.len-outputs.ensures, ap length c.requires.wiring.read)

pub returns-else-place-outputs-clause-is : goal.returns-else-place-outputs-clause-is
returns-else-place-outputs-clause-is c =
    let s = session_in c.args.self.now in
    let wiring = c.requires.wiring in
    let j = c.args.place - c.len-outputs.result in
    let here : length (owners s) + length s.gates + length (readers s) + j ≡ length c.args.self.now.owners.items + length s.gates + c.args.place = omega (arith, c.if-place-outputs.false, c.len-outputs.ensures, owners_count _ wiring, ap length wiring.read) in
    let within : j < length s.kept = omega (arith, c.if-place-outputs.false, c.requires.within, c.len-outputs.ensures) in
    sym (ap (session_slot s) (sym here) ∙ slot_kept s c.requires.direct j within)

pub returns-else-place-outputs-clause-inside : goal.returns-else-place-outputs-clause-inside
returns-else-place-outputs-clause-inside c = omega (arith, c.if-place-outputs.false, c.requires.within, c.len-outputs.ensures)
