use Rattle.std.proofs.Common.{◌<◌, ◌++◌, ◌∷◌, [], length, ◌∙◌, ap₂, subst}
use Rattle.circuit_model.specs.Netlists.{no_gate}
use Rattle.circuit_file.specs.CircuitTexts.{lines_text, gate_parts}
use Rattle.circuit_file.proofs.WriterSteps.{gates_more}
use Rattle.circuit_file.proofs.writer.push_gates.Goals as goal

pub loop-at-preserved : goal.loop-at-preserved
loop-at-preserved c =
    let here : c.loop-at.at < length c.args.circuit.now.gates = subst (λ n. c.loop-at.at < n) c.gates-at-end.ensures c.loop-at-test.true in
    c.in_ok-push_gate.ensures
    ∙ ap₂ (λ t g. t ++ lines_text (gate_parts g ∷ [])) c.loop-at.invariant c.gate.ensures
    ∙ gates_more c.args.text.now.items c.args.circuit.now.gates c.loop-at.at no_gate here
