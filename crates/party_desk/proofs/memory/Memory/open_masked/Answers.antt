use Rattle.std.proofs.Common.{◌<◌, length, sym, ap, ◌∙◌, subst, arith}
use Rattle.std.specs.Arc.{arc_value}
use Rattle.circuit_model.specs.declared.gate.Gate.{Gate}
use Rattle.session_slots.specs.Sessions.{gate, operand, Session}
use Rattle.party_desk.proofs.NamedRows.{operand_named}
use Rattle.party_desk.proofs.memory.Memory.open_masked.Goals as goal

pub row-wire-requires : goal.row-wire-requires
row-wire-requires c =
    let plan = c.args.plan.now in
    let is = c.operand.ensures ∙ ap (λ (g : Gate). operand g c.args.side) c.gate.ensures ∙ ap (λ (z : Session). operand (gate z c.args.t) c.args.side) c.part-part.ensures in
    let named = operand_named plan c.recall.ensures c.args.s c.requires.session c.args.t c.args.side c.requires.inside.0 in
    subst (λ w. w < length (arc_value c.args.self.now.table).rows.items) (sym is) (omega (arith, named, c.requires.fits.table.0.wires))
