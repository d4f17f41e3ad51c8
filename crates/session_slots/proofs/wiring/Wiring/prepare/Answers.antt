use Rattle.std.proofs.Common.{true}
use Rattle.session_slots.specs.Wirings.{session_in}
use Rattle.session_slots.proofs.GateOrder.{wired_with}
use Rattle.session_slots.proofs.wiring.Wiring.prepare.Goals as goal

pub returns-clause-tables : goal.returns-clause-tables
returns-clause-tables c =
    let before = c.requires in
    record {
      owned = before.owned;
      sources = before.sources;
      read = before.read;
      products = before.products;
      wired = wired_with (session_in c.args.self) true c.args.ahead (session_in c.args.self).kept before.wired before.wired.kept;
      kinds = λ e. c.in_ok-kinds.ensures;
    }
