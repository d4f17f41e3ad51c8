use Rattle.std.proofs.Common.{length, sym, ap₂, ◌∙◌, subst}
use Rattle.session_slots.specs.KeptWires.{sets_in}
use Rattle.session_slots.specs.Sessions.{session_slot}
use Rattle.plan_model.specs.Plans.{session}
use Rattle.program_model.specs.States.{taking_slot, took_in}
use Rattle.party_desk.specs.Memories.{state_of, row_of, on_rows, Alike}
use Rattle.party_desk.proofs.NamedSlots.{same_taken, taken_product}
use Rattle.party_desk.proofs.RowStates.{added_on_rows, products_add_up}
use Rattle.party_desk.proofs.desk.Desk.take_word.Goals as goal

pub returns-in-Multiplied-clause-state : goal.returns-in-Multiplied-clause-state
returns-in-Multiplied-clause-state c =
    let plan = c.args.plan.now in
    let d = c.args.self.now in
    let m = length plan.groups in
    let z = taking_slot plan c.args.number in
    added_on_rows plan d.session (row_of d.memory) (state_of m d.memory) (state_of m c.add.new.self) c.args.share c.args.word c.add.ensures.state z
    (products_add_up plan d.session z (taken_product plan d c.requires.stands c.args.number c.args.share c.requires.proper c.requires.here (sym c.in-Multiplied.ensures)))

pub returns-in_default-clause-state : goal.returns-in_default-clause-state
returns-in_default-clause-state c =
    let plan = c.args.plan.now in
    let d = c.args.self.now in
    let m = length plan.groups in
    let is = c.slot_kind-kind.ensures.is ∙ ap₂ session_slot c.part.ensures c.slot.ensures ∙ same_taken plan d c.requires.stands c.args.number c.args.share c.requires.proper c.requires.here in
    subst (λ z. Alike m (state_of m c.take.new.self) (on_rows (row_of d.memory) (sets_in (session plan d.session) z) (took_in plan d.session z c.args.share c.args.word) (state_of m d.memory))) is c.take.ensures.state
