use Rattle.std.proofs.Common.{◌<◌, sym, ap₂, ◌∙◌, subst}
use Rattle.circuit_model.specs.declared.gate.Gate.{Gate}
use Rattle.session_slots.specs.Sessions.{Session, product_in, row_names, session_slot}
use Rattle.plan_model.specs.Plans.{session}
use Rattle.party_desk.proofs.NamedRows.{slot_within_rows}
use Rattle.party_desk.proofs.NamedSlots.{product_slot}
use Rattle.party_desk.proofs.desk.Desk.word.Goals as goal

pub summand-requires-clause-wire : goal.summand-requires-clause-wire
summand-requires-clause-wire c =
    let plan = c.args.plan.now in
    let d = c.args.self.now in
    let named = product_slot plan d c.requires.stands c.args.number c.args.share c.requires.proper c.requires.here (sym c.in-Multiplied.ensures) in
    let is = c.product_in-wire.ensures ∙ ap₂ (λ (z : Session) k. product_in z (session_slot z k)) c.part-part.ensures c.slot-slot.ensures in
    subst (λ (g : Gate). g.output < row_names (session plan d.session)) (sym is) (slot_within_rows plan c.requires.stands.sound d.session c.requires.stands.session d.place.slot named).output
