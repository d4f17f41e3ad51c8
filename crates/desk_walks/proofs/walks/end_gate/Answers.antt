use Rattle.std.proofs.Common.{[], ◌∷◌, ◌^◌, length, sym, subst}
use Rattle.plan_model.specs.Plans.{slot}
use Rattle.program_model.specs.declared.instruction.Instruction.TheVariants.{Linear}
use Rattle.program_model.specs.States.{computed}
use Rattle.circuit_model.specs.declared.gate.Gate.{Gate}
use Rattle.party_desk.specs.Memories.{state_of, row_of, on_rows, Alike}
use Rattle.desk_walks.proofs.GateWalks.{goes_stand, goes_proper}
use Rattle.desk_walks.proofs.GatePlaces.{gate_multiplies, linear_after}
use Rattle.desk_walks.proofs.walks.end_gate.Goals as goal

pub gate-gate-requires-clause-stands : goal.gate-gate-requires-clause-stands
gate-gate-requires-clause-stands c = goes_stand c.args.plan.now c.requires.goes.0 c.args.desk.now c.requires.goes.1

pub gate-gate-requires-clause-gate : goal.gate-gate-requires-clause-gate
gate-gate-requires-clause-gate c =
    let plan = c.args.plan.now in
    let d = c.args.desk.now in
    let named = goes_proper plan c.requires.goes.0 d c.requires.goes.1 (Linear c.args.slot) (sym (c.requires.linear c.requires.goes.0 c.requires.goes.1)) in
    record { kind = gate_multiplies (slot plan d.session c.args.slot) named.kind; slot = named.slot }

pub returns-clause-before : goal.returns-clause-before
returns-clause-before c given goes =
    let plan = c.args.plan.now in
    let d = c.args.desk.now in
    let m = length plan.groups in
    linear_after plan given d goes c.args.slot (c.requires.linear given goes) c.linear.new.self c.linear.ensures.fits c.linear.ensures.kept
    (subst (λ (g : Gate). Alike m (state_of m c.linear.new.self) (on_rows (row_of d.memory) (g.output ∷ []) (computed (2 ^ plan.bits) g) (state_of m d.memory))) c.gate-gate.ensures.is c.linear.ensures.state)
