use Rattle.std.proofs.Common.{◌++◌, ◌∷◌, [], List, ℕ, length, map, ◌∙◌, ap, ap₂}
use Rattle.std.specs.Prelude.{decimal}
use Rattle.circuit_file.specs.CircuitTexts.{lines_text, gate_parts}
use Rattle.circuit_file.proofs.WriterSteps.{whole_text}
use Rattle.circuit_file.proofs.writer.write.Goals as goal

-- a line of numbers, how many the others are among them
abbrev widths_line : List ℕ → List ℕ
widths_line widths = lines_text (map decimal (length widths ∷ widths) ∷ [])

pub returns : goal.returns
returns c =
    c.in_ok-push_gates.ensures
    ∙ ap (λ t. t ++ lines_text (map gate_parts c.args.circuit.now.gates))
    (c.in_ok-push_line-3.ensures
    ∙ ap₂ (λ t ws. t ++ widths_line ws)
    (c.in_ok-push_line-2.ensures
    ∙ ap₂ (λ t ws. t ++ widths_line ws)
    (c.in_ok-push_line.ensures
    ∙ ap (λ t. t ++ lines_text (map decimal (c.from.result ∷ c.from-wires.result ∷ []) ∷ [])) c.new-text.ensures.items
    ∙ ap₂ (λ g w. lines_text (map decimal (g ∷ w ∷ []) ∷ [])) (c.from.ensures ∙ c.gates.ensures) (c.from-wires.ensures ∙ c.wires.ensures.is))
    c.input_widths-inputs.ensures)
    c.output_widths-outputs.ensures)
    ∙ whole_text c.args.circuit.now
