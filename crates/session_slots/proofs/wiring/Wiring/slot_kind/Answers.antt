use Rattle.std.proofs.Common.{◌≡◌, ◌+◌, ◌-◌, length, sym, ap, ◌∙◌, subst, arith}
use Rattle.session_slots.specs.Sessions.{owners, session_slot}
use Rattle.session_slots.specs.SoundSessions.{Inside}
use Rattle.session_slots.specs.Wirings.{session_in}
use Rattle.session_slots.proofs.SessionSlots.{slot_input, slot_gate, slots_are_numbered}
use Rattle.session_slots.proofs.WiringSlots.{wiring_count, kind_listed, owners_count}
use Rattle.session_slots.proofs.wiring.Wiring.slot_kind.Goals as goal

pub returns-then-k-inputs-clause-is : goal.returns-then-k-inputs-clause-is
returns-then-k-inputs-clause-is c =
    let s = session_in c.args.self.now in
    let wiring = c.requires.wiring in
    sym (slot_input s c.if-self.false c.args.k (omega (arith, c.if-k-inputs.true, c.len-inputs.ensures, owners_count _ wiring)))

pub returns-then-k-inputs-2-clause-is : goal.returns-then-k-inputs-2-clause-is
returns-then-k-inputs-2-clause-is c =
    let s = session_in c.args.self.now in
    let wiring = c.requires.wiring in
    let t = c.args.k - c.len-inputs.result in
    let here : length (owners s) + t ≡ c.args.k = omega (arith, c.if-k-inputs.false, c.len-inputs.ensures, owners_count _ wiring) in
    sym (ap (session_slot s) (sym here) ∙ slot_gate s c.if-self.false t (omega (arith, c.if-k-inputs.false, c.if-k-inputs-2.true, c.len-gates.ensures)))

pub kind_behind-requires-clause-within : goal.kind_behind-requires-clause-within
kind_behind-requires-clause-within c =
    omega (arith, c.if-k-inputs.false, c.if-k-inputs-2.false, c.len-inputs.ensures, c.len-gates.ensures, c.requires.within, wiring_count c.args.self.now c.requires.wiring c.if-self.false)

pub returns-else-k-inputs-2-clause-is : goal.returns-else-k-inputs-2-clause-is
returns-else-k-inputs-2-clause-is c =
    let s = session_in c.args.self.now in
    let here : length c.args.self.now.owners.items + length s.gates + (c.args.k - c.len-inputs.result - c.len-gates.result) ≡ c.args.k = omega (arith, c.if-k-inputs.false, c.if-k-inputs-2.false, c.len-inputs.ensures, c.len-gates.ensures) in
    c.kind_behind.ensures.is ∙ ap (session_slot s) here

pub returns-then-self-clause-inside : goal.returns-then-self-clause-inside
returns-then-self-clause-inside c =
    let s = session_in c.args.self.now in
    let wiring = c.requires.wiring in
    let is = kind_listed c.args.self.now c.args.k c.index.result.now wiring c.if-self.true c.requires.within c.index.ensures in
    subst (Inside s) (sym is) ((slots_are_numbered s).inside c.args.k c.requires.within)
