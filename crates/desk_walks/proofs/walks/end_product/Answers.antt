use Rattle.std.proofs.Common.{[], ◌∷◌, sym, subst, length}
use Rattle.program_model.specs.States.{summed}
use Rattle.circuit_model.specs.declared.gate.Gate.{Gate}
use Rattle.party_desk.specs.Memories.{state_of, row_of, on_rows, Alike}
use Rattle.desk_walks.proofs.GateWalks.{goes_stand, goes_proper}
use Rattle.desk_walks.proofs.GatePlaces.{sum_after}
use Rattle.desk_walks.proofs.walks.end_product.Goals as goal

pub gate-gate-requires-clause-stands : goal.gate-gate-requires-clause-stands
gate-gate-requires-clause-stands c = goes_stand c.args.plan.now c.requires.goes.0 c.args.desk.now c.requires.goes.1

pub gate-gate-requires-clause-gate : goal.gate-gate-requires-clause-gate
gate-gate-requires-clause-gate c = goes_proper c.args.plan.now c.requires.goes.0 c.args.desk.now c.requires.goes.1 _ (sym (c.requires.sum c.requires.goes.0 c.requires.goes.1))

pub returns-clause-before : goal.returns-clause-before
returns-clause-before c given goes =
    let plan = c.args.plan.now in
    let d = c.args.desk.now in
    let m = length plan.groups in
    sum_after plan given d goes c.args.slot (c.requires.sum given goes) c.requires.product c.requires.last c.sum.new.self c.sum.ensures.fits c.sum.ensures.kept
    (subst (λ (g : Gate). Alike m (state_of m c.sum.new.self) (on_rows (row_of d.memory) (g.output ∷ []) (summed plan d.party g) (state_of m d.memory))) c.gate-gate.ensures.is c.sum.ensures.state)
