use Rattle.std.proofs.Common.{◌≡◌, suc, ◌+◌, ◌-◌, length, sym, ◌∙◌, ap, arith}
use Rattle.std.proofs.lemmas.List.{length_push}
use Rattle.circuit_model.specs.DraftSteps.{Draft}
use Rattle.circuit_file.specs.CircuitFiles.{gates_in}
use Rattle.circuit_file.specs.Steps.{AddsAll}
use Rattle.circuit_file.proofs.ReaderSteps.{sent, fails_so, gate_goes, gates_end}
use Rattle.circuit_file.proofs.file.read_gates.Goals as goal

pub returns-in_err-next_gate : goal.returns-in_err-next_gate
returns-in_err-next_gate c =
    let left : c.args.gates - c.loop-at.at ≡ suc (c.args.gates - (c.loop-at.at + 1)) = omega arith in
    sent (λ r. AddsAll c.args.layout c.args.gates c.args.lines.now c.args.builder.now r c.next_gate.new.lines c.next_gate.new.builder) c.from_residual.result c.in_err-next_gate.field-0.0 c.from_residual.ensures
    (fails_so c.in_err-next_gate.field-0.0 (gates_in c.args.layout (suc (c.args.gates - (c.loop-at.at + 1))) (c.loop-at.at + 3) c.loop-at.builder.circuit c.loop-at.lines)
    (gates_in c.args.layout c.args.gates 3 c.args.builder.now.circuit c.args.lines.now) (c.in_err-next_gate.ensures (c.args.gates - (c.loop-at.at + 1)))
    (λ e. e ∙ ap (λ n. gates_in c.args.layout n (c.loop-at.at + 3) c.loop-at.builder.circuit c.loop-at.lines) (sym left) ∙ c.loop-at.invariant.left))

pub loop-at-preserved : goal.loop-at-preserved
loop-at-preserved c =
    let left : c.args.gates - c.loop-at.at ≡ suc (c.args.gates - (c.loop-at.at + 1)) = omega arith in
    let three : c.loop-at.at + 1 + 3 ≡ c.loop-at.at + 3 + 1 = omega arith in
    let next = c.in_ok-next_gate.ensures in
    let more = next.2 in
    record {
      left = ap (λ k. gates_in c.args.layout (c.args.gates - (c.loop-at.at + 1)) k c.next_gate.new.builder.circuit c.next_gate.new.lines) three
          ∙ ap (λ (d : Draft). gates_in c.args.layout (c.args.gates - (c.loop-at.at + 1)) (c.loop-at.at + 3 + 1) d.circuit c.next_gate.new.lines) more.2
          ∙ sym (gate_goes c.args.layout _ _ _ c.loop-at.builder.circuit c.loop-at.lines c.next_gate.new.lines next.0 more.0 left next.1 more.1) ∙ c.loop-at.invariant.left;
      done = ap (λ (d : Draft). length d.circuit.gates) more.2 ∙ length_push c.loop-at.builder.circuit.gates more.0 ∙ ap (λ n. n + 1) c.loop-at.invariant.done;
      announced = ap (λ (d : Draft). d.announced) more.2 ∙ c.loop-at.invariant.announced;
      going = ap (λ (d : Draft). d.refused) more.2 ∙ c.loop-at.invariant.going;
    }

pub returns : goal.returns
returns c =
    let none : c.args.gates - c.loop-at.at ≡ 0 = omega arith in
    (sym c.loop-at.invariant.left ∙ gates_end c.args.layout _ _ c.loop-at.builder.circuit c.loop-at.lines none, c.loop-at.invariant.going)
