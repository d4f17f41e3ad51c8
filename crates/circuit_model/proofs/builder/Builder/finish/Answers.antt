use Rattle.std.proofs.Common.{◌≡◌, arith, refl, sym, ◌∙◌, ap, subst, length, sum, Ok, Err}
use Rattle.circuit_model.specs.declared.fault.CircuitFault.TheVariants.{OutputNotSet}
use Rattle.circuit_model.specs.DraftSteps.{Draft, circuit_of}
use Rattle.circuit_model.specs.Netlists.{IsCircuit}
use Rattle.circuit_model.proofs.DraftLaws.{end_refused, end_unset, end_done, end_valid}
use Rattle.circuit_model.proofs.builder.Builder.finish.Goals as goal

pub returns-in-Some : goal.returns-in-Some
returns-in-Some c = end_refused c.args.self c.in-Some.fault (ap (λ (d : Draft). d.refused) (sym c.self.view_is) ∙ c.in-Some.is)

pub of-requires : goal.of-requires
of-requires c =
    let i = c.self.inside in
    let d : Draft = record { circuit = record { bits = i.ring; gates = i.gates.items; wires = length i.set.items; inputs = i.inputs.items; outputs = i.outputs.items }; announced = i.announced; refused = i.refused } in
    let many : c.count_wires.result ≡ sum i.outputs.items = c.count_wires.ensures ∙ ap sum c.deref-2.ensures.value in
    let valid : IsCircuit d.circuit = end_valid d i.set.items c.deref.result.now c.count_wires.result c.deref.ensures.value refl many c.self.invariant c.in-None.ensures in
    let wires : c.len.result ≡ length i.set.items = omega (arith, c.len.ensures, c.deref.ensures.len, ap length c.deref.ensures.value) in
    subst (λ n. IsCircuit (record d.circuit { wires = n })) (sym wires) valid

pub returns-in-Some-first_unset : goal.returns-in-Some-first_unset
returns-in-Some-first_unset c =
    let i = c.self.inside in
    let d : Draft = record { circuit = record { bits = i.ring; gates = i.gates.items; wires = length i.set.items; inputs = i.inputs.items; outputs = i.outputs.items }; announced = i.announced; refused = i.refused } in
    let many : c.count_wires.result ≡ sum i.outputs.items = c.count_wires.ensures ∙ ap sum c.deref-2.ensures.value in
    subst (λ (a : Draft). Err (OutputNotSet c.in-Some-first_unset.wire) ≡ circuit_of a) c.self.view_is
    (end_unset d i.set.items c.deref.result.now c.count_wires.result c.in-Some-first_unset.wire c.in_default.is c.deref.ensures.value refl many c.self.invariant c.in-Some-first_unset.ensures)

pub returns-in-None : goal.returns-in-None
returns-in-None c =
    let i = c.self.inside in
    let d : Draft = record { circuit = record { bits = i.ring; gates = i.gates.items; wires = length i.set.items; inputs = i.inputs.items; outputs = i.outputs.items }; announced = i.announced; refused = i.refused } in
    let many : c.count_wires.result ≡ sum i.outputs.items = c.count_wires.ensures ∙ ap sum c.deref-2.ensures.value in
    let wires : c.len.result ≡ length i.set.items = omega (arith, c.len.ensures, c.deref.ensures.len, ap length c.deref.ensures.value) in
    let made : c.of.result ≡ d.circuit = c.of.ensures ∙ ap (λ n. record d.circuit { wires = n }) wires in
    ap Ok made ∙ subst (λ (a : Draft). Ok d.circuit ≡ circuit_of a) c.self.view_is
    (end_done d i.set.items c.deref.result.now c.count_wires.result c.in_default.is c.deref.ensures.value refl many c.self.invariant c.in-None.ensures)
