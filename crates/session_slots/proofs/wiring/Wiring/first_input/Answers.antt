use Rattle.std.proofs.Common.{length, arith}
use Rattle.session_slots.specs.Wirings.{session_in}
use Rattle.session_slots.proofs.SessionSlots.{all_prepared, none_before}
use Rattle.session_slots.proofs.wiring.Wiring.first_input.Goals as goal

pub returns-then-self : goal.returns-then-self
returns-then-self c = omega (arith, all_prepared (session_in c.args.self.now) c.if-self.true, c.requires.products)

pub returns-else-self : goal.returns-else-self
returns-else-self c = omega (arith, none_before (session_in c.args.self.now) c.if-self.false (length c.args.self.now.gates.items))
