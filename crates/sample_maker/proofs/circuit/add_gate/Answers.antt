use Rattle.std.proofs.Common.{◌+◌, ◌<◌, [], ◌∷◌, length, ap, ap₂, ◌∙◌, sym, subst, arith}
use Rattle.circuit_model.specs.DraftSteps.{Draft}
use Rattle.list_laws.proofs.JoinedLists.{length-listed}
use Rattle.sample_maker.specs.Samples.{sample_gate}
use Rattle.sample_maker.proofs.SampleGates.{taken}
use Rattle.sample_maker.proofs.SampleCircuit.{added}
use Rattle.sample_maker.proofs.circuit.add_gate.Goals as goal

pub gate-requires : goal.gate-requires
gate-requires c =
    subst (λ (d : Draft). length d.circuit.gates < d.announced) (sym c.requires.before)
    (omega (arith, c.requires.gate, length-listed c.args.j (sample_gate c.args.count)))

pub returns : goal.returns
returns c =
    let wires = c.operands.ensures ∙ ap₂ (taken c.operation_of-operation.result) c.first_operand.ensures c.second_operand.ensures in
    let made = added c.args.count c.args.j _ c.operation_of-operation.result c.operands.result.now _ c.args.builder.now c.gate.new.self c.gate.result c.requires.gate c.requires.before
    c.operation_of-operation.ensures wires (ap (λ x. (4 + x) ∷ []) c.from-output.ensures) c.gate.ensures.next c.gate.ensures.answer in
    record { after = made.0; memory = made.1 }
