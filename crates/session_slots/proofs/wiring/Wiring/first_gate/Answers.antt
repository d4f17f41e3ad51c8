use Rattle.std.proofs.Common.{length, arith}
use Rattle.session_slots.specs.Wirings.{session_in}
use Rattle.session_slots.proofs.SessionSlots.{few_before}
use Rattle.session_slots.proofs.WiringSlots.{owners_count}
use Rattle.session_slots.proofs.wiring.Wiring.first_gate.Goals as goal

pub overflow_add-result : goal.overflow_add-result
overflow_add-result c =
    let few = few_before (session_in c.args.self.now) (length c.args.self.now.gates.items) in
    omega (arith, few, c.first_input.ensures, c.len.ensures, c.requires.wired.gates, c.requires.wired.wires, c.requires.wired.input_wires, owners_count _ c.requires)
