use Rattle.std.proofs.Common.{length, ap, arith}
use Rattle.session_slots.specs.Wirings.{session_in}
use Rattle.session_slots.proofs.SessionSlots.{slot_count}
use Rattle.session_slots.proofs.wiring.Wiring.first_output.Goals as goal

pub overflow_sub-result : goal.overflow_sub-result
overflow_sub-result c = omega (arith, slot_count (session_in c.args.self.now), c.slots.ensures, c.len.ensures, ap length c.requires.read)

pub overflow_sub-result-2 : goal.overflow_sub-result-2
overflow_sub-result-2 c = omega (arith, slot_count (session_in c.args.self.now), c.slots.ensures, c.len.ensures, c.len-2.ensures, ap length c.requires.read)

pub returns : goal.returns
returns c = omega (arith, slot_count (session_in c.args.self.now), c.slots.ensures, c.len.ensures, c.len-2.ensures, ap length c.requires.read)
