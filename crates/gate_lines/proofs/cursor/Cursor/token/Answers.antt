use Rattle.std.proofs.Common.{◌≡◌, ◌<◌, ◌-◌, ◌∷◌, true, get_or, length, take, drop, refl, sym, ◌∙◌, ap, subst, arith}
use Rattle.text_tokens.specs.Tokens.{is_blank}
use Rattle.gate_lines.specs.Places.{Place, place_in, StandsAt}
use Rattle.gate_lines.proofs.Places.{line_over, token_between}
use Rattle.gate_lines.proofs.cursor.Cursor.token.Goals as goal

pub returns-then-start-end : goal.returns-then-start-end
returns-then-start-end c =
    let here : place_in c.self.inside.number (drop c.self.inside.at c.as_bytes-bytes.result.now) ≡ c.args.self.now = ap (λ t. place_in c.self.inside.number (drop c.self.inside.at t)) c.as_bytes-bytes.ensures.value ∙ c.self.view_is in
    let stands : StandsAt c.as_bytes-bytes.result.now c.self.inside.at = subst (λ t. StandsAt t c.self.inside.at) (sym c.as_bytes-bytes.ensures.value) c.self.invariant.1 in
    let stops : c.self.inside.at < length c.as_bytes-bytes.result.now → is_blank (get_or c.as_bytes-bytes.result.now c.self.inside.at 0) ≡ true =
    subst (λ i. i < length c.as_bytes-bytes.result.now → is_blank (get_or c.as_bytes-bytes.result.now i 0) ≡ true) (sym c.if-start-end.true) c.token_end-end.ensures.stops in
    (sym (ap (λ (p : Place). p.tokens) here) ∙ line_over c.self.inside.number c.self.inside.at c.as_bytes-bytes.result.now stands.0 stands.1 stops, refl)

pub returns : goal.returns
returns c =
    let here : place_in c.self.inside.number (drop c.self.inside.at c.as_bytes-bytes.result.now) ≡ c.args.self.now = ap (λ t. place_in c.self.inside.number (drop c.self.inside.at t)) c.as_bytes-bytes.ensures.value ∙ c.self.view_is in
    let rest : place_in c.self.inside.number (drop c.token_end-end.result c.as_bytes-bytes.result.now) ≡ place_in c.self.inside.number (drop c.blanks_end-self-inside.result c.self.inside.text.now) =
    sym (c.blanks_end-self-inside.ensures.same c.self.inside.number) ∙ ap (λ t. place_in c.self.inside.number (drop c.blanks_end-self-inside.result t)) c.as_bytes-bytes.ensures.value in
    sym here
    ∙ token_between c.self.inside.number c.self.inside.at c.token_end-end.result c.as_bytes-bytes.result.now (omega arith) c.token_end-end.ensures.within.1 c.token_end-end.ensures.whole c.token_end-end.ensures.stops
    ∙ ap (λ (p : Place). record p { tokens = take (c.token_end-end.result - c.self.inside.at) (drop c.self.inside.at c.as_bytes-bytes.result.now) ∷ p.tokens }) rest
