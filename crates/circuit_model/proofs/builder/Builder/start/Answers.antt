use Rattle.std.proofs.Common.{◌≡◌, arith, ◌∙◌, ap, length, sum, ℕ, []}
use Rattle.std.proofs.lemmas.Result.{err_from_is_err_and}
use Rattle.circuit_model.specs.Netlists.{is_set}
use Rattle.circuit_model.proofs.PassedChecks.{IsSmall}
use Rattle.circuit_model.proofs.DraftLaws.{Passes, passes_seen, small, started, start_sound, not_started}
use Rattle.circuit_model.proofs.builder.Builder.start.Goals as goal

pub start_set-requires : goal.start_set-requires
start_set-requires c =
    let p : Passes c.args.gates c.args.wires c.args.inputs.items c.args.outputs.items c.args.lines = passes_seen c.args.gates c.args.wires c.deref.result.now c.args.inputs.items c.deref-2.result.now c.args.outputs.items c.args.lines c.deref.ensures.value c.deref-2.ensures.value c.in_ok-check_header.ensures in
    let s : IsSmall c.args.gates c.args.wires c.args.inputs.items c.args.outputs.items = small c.args.gates c.args.wires c.args.inputs.items c.args.outputs.items c.args.lines p in
    omega (arith, s.input_wires, c.count_wires.ensures, ap sum c.deref-3.ensures.value)

pub invariant_of-result : goal.invariant_of-result
invariant_of-result c =
    let p : Passes c.args.gates c.args.wires c.args.inputs.items c.args.outputs.items c.args.lines = passes_seen c.args.gates c.args.wires c.deref.result.now c.args.inputs.items c.deref-2.result.now c.args.outputs.items c.args.lines c.deref.ensures.value c.deref-2.ensures.value c.in_ok-check_header.ensures in
    let s : IsSmall c.args.gates c.args.wires c.args.inputs.items c.args.outputs.items = small c.args.gates c.args.wires c.args.inputs.items c.args.outputs.items c.args.lines p in
    let many : c.count_wires.result ≡ sum c.args.inputs.items = c.count_wires.ensures ∙ ap sum c.deref-3.ensures.value in
    let told = λ (w : ℕ). c.in_ok-set.ensures.told w ∙ ap (λ n. is_set n [] w) many in
    start_sound c.args.ring c.args.gates c.args.wires (length c.in_ok-set.set.items) c.args.inputs.items c.args.outputs.items c.in_ok-gates_to_come.gates_to_come.items c.in_ok-set.set.items
    (omega (arith, c.recall.ensures.some)) (omega (arith, c.recall.ensures.few)) s c.in_ok-set.ensures.long c.in_ok-gates_to_come.ensures.items told

pub returns : goal.returns
returns c =
    let p : Passes c.args.gates c.args.wires c.args.inputs.items c.args.outputs.items c.args.lines = passes_seen c.args.gates c.args.wires c.deref.result.now c.args.inputs.items c.deref-2.result.now c.args.outputs.items c.args.lines c.deref.ensures.value c.deref-2.ensures.value c.in_ok-check_header.ensures in
    started c.args.ring c.args.gates c.args.wires (length c.in_ok-set.set.items) c.args.inputs.items c.args.outputs.items c.args.lines c.in_ok-gates_to_come.gates_to_come.items p c.in_ok-set.ensures.long c.in_ok-gates_to_come.ensures.items

pub count_wires-requires : goal.count_wires-requires
count_wires-requires c =
    let p : Passes c.args.gates c.args.wires c.args.inputs.items c.args.outputs.items c.args.lines = passes_seen c.args.gates c.args.wires c.deref.result.now c.args.inputs.items c.deref-2.result.now c.args.outputs.items c.args.lines c.deref.ensures.value c.deref-2.ensures.value c.in_ok-check_header.ensures in
    let s : IsSmall c.args.gates c.args.wires c.args.inputs.items c.args.outputs.items = small c.args.gates c.args.wires c.args.inputs.items c.args.outputs.items c.args.lines p in
    omega (arith, s.input_wires, s.wires, ap sum c.deref-3.ensures.value)

pub returns-in_err-check_header : goal.returns-in_err-check_header
returns-in_err-check_header c =
    let p = err_from_is_err_and c.from_residual.result c.from_residual.ensures.1 in
    not_started c.args.ring c.args.gates c.args.wires c.deref.result.now c.args.inputs.items c.deref-2.result.now c.args.outputs.items c.args.lines c.in_err-check_header.field-0.0 p.0 c.from_residual.result
    c.deref.ensures.value c.deref-2.ensures.value c.in_err-check_header.ensures p.1 p.2
