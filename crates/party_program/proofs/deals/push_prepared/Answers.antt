use Rattle.std.proofs.Common.{ap, arith}
use Rattle.session_slots.specs.Sessions.{session_slots}
use Rattle.session_slots.proofs.SessionSlots.{slot_count}
use Rattle.party_program.proofs.deals.push_prepared.Goals as goal

pub push_slots-requires-clause-slots : goal.push_slots-requires-clause-slots
push_slots-requires-clause-slots c =
    let all = slot_count c.part-part.result.now in
    let same = ap session_slots c.part-part.ensures in
    (omega (arith, c.first_input_slot.ensures, c.first_gate_slot.ensures), omega (arith, c.first_gate_slot.ensures, all, same))
