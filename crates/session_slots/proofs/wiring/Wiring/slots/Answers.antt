use Rattle.std.proofs.Common.{arith}
use Rattle.session_slots.specs.Wirings.{session_in}
use Rattle.session_slots.proofs.RowNames.{few_slots}
use Rattle.session_slots.proofs.WiringSlots.{wiring_count, kinds_count}
use Rattle.session_slots.proofs.wiring.Wiring.slots.Goals as goal

pub overflow_cast-result : goal.overflow_cast-result
overflow_cast-result c = omega (arith, c.len.ensures, kinds_count c.args.self.now c.requires c.if-self.true, few_slots (session_in c.args.self.now) c.requires.wired)

pub returns : goal.returns
returns c = omega (arith, wiring_count c.args.self.now c.requires c.if-self.false, c.len-2.ensures, c.len-3.ensures, c.len-4.ensures)
