use Rattle.std.proofs.Common.{sym, ap, ◌∙◌, subst}
use Rattle.session_slots.specs.Sessions.{Session, product_in, session_slot}
use Rattle.party_desk.specs.Memories.{GateWithin}
use Rattle.party_desk.proofs.NamedRows.{slot_within_rows}
use Rattle.party_desk.proofs.desk.Desk.gate.Goals as goal

pub returns-clause-within : goal.returns-clause-within
returns-clause-within c =
    let plan = c.args.plan.now in
    let s = c.args.self.now.session in
    let is = c.product_in.ensures ∙ ap (λ (z : Session). product_in z (session_slot z c.args.slot)) c.part.ensures in
    subst (GateWithin plan s) (sym is) (slot_within_rows plan c.requires.stands.sound s c.requires.stands.session c.args.slot c.requires.gate)
