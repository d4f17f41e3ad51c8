use Rattle.std.proofs.Common.{length, ap, arith}
use Rattle.circuit_model.specs.declared.gate.Gate.{Gate}
use Rattle.session_slots.specs.Sessions.{session_slots}
use Rattle.session_slots.proofs.SessionSlots.{slot_count}
use Rattle.party_program.proofs.deals.push_most.Goals as goal

pub returns-then-is_prepared-clause-there : goal.returns-then-is_prepared-clause-there
returns-then-is_prepared-clause-there c =
    let all = slot_count c.part-part.result.now in
    let same = ap session_slots c.part-part.ensures in
    omega (arith, c.first_output_slot.ensures, all, same)

pub push_slots-requires-clause-slots : goal.push_slots-requires-clause-slots
push_slots-requires-clause-slots c =
    let all = slot_count c.part-part.result.now in
    let same = ap session_slots c.part-part.ensures in
    (omega arith, omega (arith, c.input_wires-inputs.ensures, all, same))

pub returns-clause-there : goal.returns-clause-there
returns-clause-there c =
    let all = slot_count c.part-part.result.now in
    let same = ap session_slots c.part-part.ensures in
    let many = ap (length {A = Gate}) c.gates.ensures in
    omega (arith, c.input_wires-inputs.ensures, many, all, same)
