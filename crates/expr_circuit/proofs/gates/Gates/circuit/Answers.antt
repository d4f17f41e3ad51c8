use Rattle.std.proofs.Common.{◌≡◌, ◌++◌, length, map, Ok, sym, ◌∙◌, ap, subst, arith}
use Rattle.expr_circuit.specs.Kept.{Kept}
use Rattle.circuit_model.specs.Netlists.{IsCircuit}
use Rattle.expr_circuit.specs.Circuits.{copy}
use Rattle.expr_circuit.proofs.GateSteps.{inputs_large, results_large, gates_large, small_answer, assembled_is}
use Rattle.expr_circuit.proofs.gates.Gates.circuit.Goals as goal

pub returns-then-inputs-gt-MOST_VALUES : goal.returns-then-inputs-gt-MOST_VALUES
returns-then-inputs-gt-MOST_VALUES c = λ d is.
    let i : c.self.inside.inputs ≡ d.inputs = ap (λ (k : Kept). k.inputs) c.self.view_is ∙ ap (λ (k : Kept). k.inputs) is in
    inputs_large c.args.ring d (omega (arith, i, c.if-inputs-gt-MOST_VALUES.true))

pub returns-then-results-gt-MOST_VALUES : goal.returns-then-results-gt-MOST_VALUES
returns-then-results-gt-MOST_VALUES c = λ d is.
    let r : c.self.inside.results ≡ length d.outputs = ap (λ (k : Kept). k.results) c.self.view_is ∙ ap (λ (k : Kept). k.results) is in
    results_large c.args.ring d (omega (arith, r, c.if-results-gt-MOST_VALUES.true))

pub returns-then-gates-results : goal.returns-then-gates-results
returns-then-gates-results c = λ d is.
    let r : c.self.inside.results ≡ length d.outputs = ap (λ (k : Kept). k.results) c.self.view_is ∙ ap (λ (k : Kept). k.results) is in
    let g : c.self.inside.gates ≡ length d.gates = ap (λ (k : Kept). k.gates) c.self.view_is ∙ ap (λ (k : Kept). k.gates) is in
    gates_large c.args.ring d (omega (arith, r, g, c.if-gates-results.true, c.if-results-gt-MOST_VALUES.false))

pub assemble-requires : goal.assemble-requires
assemble-requires c =
    let d = c.requires.0 in
    let kept_so = assembled_is c.args.ring d _ c.deref-2.result.now c.len-outputs.result (c.self.view_is ∙ c.requires.1) (omega (arith, c.if-inputs-gt-MOST_VALUES.false)) (omega (arith, c.if-results-gt-MOST_VALUES.false))
    (omega (arith, c.if-gates-results.false, c.if-results-gt-MOST_VALUES.false)) (c.deref-2.ensures.value ∙ c.in_ok-push_copies.ensures ∙ ap (λ ws. c.self.inside.drafted.items ++ map copy ws) c.deref.ensures.value) (omega (arith, c.len-outputs.ensures, c.deref.ensures.len, ap length c.deref.ensures.value)) in
    subst IsCircuit (sym kept_so.1) (c.requires.2 kept_so.0)

pub returns : goal.returns
returns c = λ d is.
    let kept_so = assembled_is c.args.ring d _ c.deref-2.result.now c.len-outputs.result (c.self.view_is ∙ is) (omega (arith, c.if-inputs-gt-MOST_VALUES.false)) (omega (arith, c.if-results-gt-MOST_VALUES.false))
    (omega (arith, c.if-gates-results.false, c.if-results-gt-MOST_VALUES.false)) (c.deref-2.ensures.value ∙ c.in_ok-push_copies.ensures ∙ ap (λ ws. c.self.inside.drafted.items ++ map copy ws) c.deref.ensures.value) (omega (arith, c.len-outputs.ensures, c.deref.ensures.len, ap length c.deref.ensures.value)) in
    small_answer c.args.ring d kept_so.0 ∙ ap Ok (sym (c.in_ok-assemble.ensures ∙ kept_so.1))
