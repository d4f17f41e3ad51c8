use Rattle.std.proofs.Common.{◌≡◌, ◌<◌, arith, refl, sym, ◌∙◌, ap, length, subst, set, true, length-set, ◌++◌, ◌∷◌, [], Some, inl}
use Rattle.std.proofs.lemmas.Grind.{common_steps}
use Rattle.circuit_model.specs.DraftSteps.{Draft, after_gate, Becomes}
use Rattle.circuit_model.specs.Netlists.{GateFits}
use Rattle.circuit_model.proofs.PassedChecks.{next_fits}
use Rattle.circuit_model.proofs.DraftLaws.{next_seen, more_sound, after_fault, after_more}
use Rattle.circuit_model.proofs.builder.Builder.gate.Goals as goal

pub index_mut-requires : goal.index_mut-requires
index_mut-requires c =
    let i = c.self.inside in
    let d : Draft = record { circuit = record { bits = i.ring; gates = i.gates.items; wires = length i.set.items; inputs = i.inputs.items; outputs = i.outputs.items }; announced = i.announced; refused = i.refused } in
    let s = next_seen d i.set.items c.deref.result.now c.args.line c.args.operation c.args.inputs.now c.args.outputs.now c.deref.ensures.value refl c.self.invariant in
    let f : GateFits d.circuit d.circuit.gates c.in-Ok.gate = next_fits d.circuit c.args.line c.args.operation c.args.inputs.now c.args.outputs.now c.in-Ok.gate (c.in-Ok.ensures ∙ s) in
    omega (arith, f.output, c.deref.ensures.len, ap length c.deref.ensures.value)

pub invariant_of-self-in-Ok : goal.invariant_of-self-in-Ok
invariant_of-self-in-Ok c =
    let i = c.self.inside in
    let d : Draft = record { circuit = record { bits = i.ring; gates = i.gates.items; wires = length i.set.items; inputs = i.inputs.items; outputs = i.outputs.items }; announced = i.announced; refused = i.refused } in
    let s = next_seen d i.set.items c.deref.result.now c.args.line c.args.operation c.args.inputs.now c.args.outputs.now c.deref.ensures.value refl c.self.invariant in
    let f : GateFits d.circuit d.circuit.gates c.in-Ok.gate = next_fits d.circuit c.args.line c.args.operation c.args.inputs.now c.args.outputs.now c.in-Ok.gate (c.in-Ok.ensures ∙ s) in
    let items : c.push.new.self.items ≡ i.gates.items ++ (c.in-Ok.gate ∷ []) = grind (arith, common_steps, c.push.ensures.items, c.if-is_err.ensures.negation) in
    let room : length i.gates.items < i.announced = subst (λ (a : Draft). length a.circuit.gates < a.announced) (sym c.self.view_is) c.requires in
    more_sound d i.set.items c.in-Ok.gate c.push.new.self.items (length (set i.set.items c.in-Ok.gate.output true)) c.self.invariant f room refl items (length-set i.set.items c.in-Ok.gate.output true)

pub returns-in-Err-clause-next : goal.returns-in-Err-clause-next
returns-in-Err-clause-next c =
    let i = c.self.inside in
    let d : Draft = record { circuit = record { bits = i.ring; gates = i.gates.items; wires = length i.set.items; inputs = i.inputs.items; outputs = i.outputs.items }; announced = i.announced; refused = i.refused } in
    let s = next_seen d i.set.items c.deref.result.now c.args.line c.args.operation c.args.inputs.now c.args.outputs.now c.deref.ensures.value refl c.self.invariant in
    subst (λ (a : Draft). Becomes a (after_gate a c.args.line c.args.operation c.args.inputs.now c.args.outputs.now) (record d { refused = Some c.in-Err.fault })) c.self.view_is
    (inl (after_fault d c.args.line c.args.operation c.args.inputs.now c.args.outputs.now c.in-Err.fault c.in_default.is (c.in-Err.ensures ∙ s)))

pub returns-else-is_err-clause-next : goal.returns-else-is_err-clause-next
returns-else-is_err-clause-next c =
    let i = c.self.inside in
    let d : Draft = record { circuit = record { bits = i.ring; gates = i.gates.items; wires = length i.set.items; inputs = i.inputs.items; outputs = i.outputs.items }; announced = i.announced; refused = i.refused } in
    let s = next_seen d i.set.items c.deref.result.now c.args.line c.args.operation c.args.inputs.now c.args.outputs.now c.deref.ensures.value refl c.self.invariant in
    let items : c.push.new.self.items ≡ i.gates.items ++ (c.in-Ok.gate ∷ []) = grind (arith, common_steps, c.push.ensures.items, c.if-is_err.ensures.negation) in
    let wires = length (set i.set.items c.in-Ok.gate.output true) in
    subst (λ (a : Draft). Becomes a (after_gate a c.args.line c.args.operation c.args.inputs.now c.args.outputs.now) (record d { circuit = record d.circuit { gates = c.push.new.self.items; wires = wires } })) c.self.view_is
    (inl (after_more d c.args.line c.args.operation c.args.inputs.now c.args.outputs.now c.in-Ok.gate c.push.new.self.items wires c.in_default.is (c.in-Ok.ensures ∙ s) items (length-set i.set.items c.in-Ok.gate.output true)))
