use Rattle.std.proofs.Common.{◌≡◌, length, ◌<◌, sym, subst, arith, rules, replicate}
use Rattle.circuit_model.specs.DraftSteps.{Draft}
use Rattle.worked_parts.proofs.ProductCircuit.{empty_draft, started, added, finished}
use Rattle.worked_parts.proofs.product_plan.product_circuit.Goals as goal

pub gate-requires : goal.gate-requires
gate-requires c =
    let inputs : c.in_ok-inputs.inputs.items ≡ replicate 2 1 = search rules in
    let outputs : c.in_ok-outputs.outputs.items ≡ replicate 1 1 = search rules in
    let is : c.in_ok-builder.builder ≡ empty_draft c.args.ring = started c.args.ring c.in_ok-inputs.inputs.items c.in_ok-outputs.outputs.items c.in_ok-builder.builder inputs outputs c.in_ok-builder.ensures in
    subst (λ (d : Draft). length d.circuit.gates < d.announced) (sym is) (omega arith)

pub returns : goal.returns
returns c =
    let inputs : c.in_ok-inputs.inputs.items ≡ replicate 2 1 = search rules in
    let outputs : c.in_ok-outputs.outputs.items ≡ replicate 1 1 = search rules in
    let is : c.in_ok-builder.builder ≡ empty_draft c.args.ring = started c.args.ring c.in_ok-inputs.inputs.items c.in_ok-outputs.outputs.items c.in_ok-builder.builder inputs outputs c.in_ok-builder.ensures in
    finished c.args.ring c.gate.new.self c.finish.result (added c.args.ring c.in_ok-builder.builder c.gate.new.self is c.in_ok-gate.ensures.next c.in_ok-gate.ensures.answer) c.finish.ensures
