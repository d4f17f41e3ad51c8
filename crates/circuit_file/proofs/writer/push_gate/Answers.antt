use Rattle.std.proofs.Common.{◌++◌, ◌∷◌, [], ◌∙◌, ap, ap₂}
use Rattle.circuit_file.proofs.WriterSteps.{gate_line}
use Rattle.circuit_file.proofs.writer.push_gate.Goals as goal

pub returns : goal.returns
returns c =
    c.in_ok-push-3.ensures
    ∙ ap (λ t. t ++ (10 ∷ []))
    (c.in_ok-push-2.ensures
    ∙ ap₂ (λ t n. t ++ n) (c.in_ok-push.ensures ∙ ap (λ t. t ++ (32 ∷ [])) c.in_ok-push_gate_numbers.ensures) c.operation_name.ensures)
    ∙ gate_line c.args.text.now.items c.args.gate
