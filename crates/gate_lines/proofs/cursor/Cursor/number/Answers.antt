use Rattle.std.proofs.Common.{◌≡◌, drop, ◌∙◌, ap}
use Rattle.text_tokens.specs.Numbers.{number_written}
use Rattle.gate_lines.specs.Places.{Place, place_in, next_token}
use Rattle.gate_lines.proofs.Places.{same_token}
use Rattle.gate_lines.proofs.cursor.Cursor.number.Goals as goal

pub returns-in_err-number-clause-number : goal.returns-in_err-number-clause-number
returns-in_err-number-clause-number c =
    let here : place_in c.self.inside.number (drop c.self.inside.at c.as_bytes.result.now) ≡ c.args.self.now = ap (λ t. place_in c.self.inside.number (drop c.self.inside.at t)) c.as_bytes.ensures.value ∙ c.self.view_is in
    c.from_residual.ensures ∙ c.in_err-number.ensures.number ∙ ap number_written (same_token c.self.inside.number (drop c.self.inside.at c.as_bytes.result.now)) ∙ ap (λ (p : Place). number_written (next_token p)) here

pub returns-clause-number : goal.returns-clause-number
returns-clause-number c =
    let here : place_in c.self.inside.number (drop c.self.inside.at c.as_bytes.result.now) ≡ c.args.self.now = ap (λ t. place_in c.self.inside.number (drop c.self.inside.at t)) c.as_bytes.ensures.value ∙ c.self.view_is in
    c.in_ok-number.ensures.number ∙ ap number_written (same_token c.self.inside.number (drop c.self.inside.at c.as_bytes.result.now)) ∙ ap (λ (p : Place). number_written (next_token p)) here
