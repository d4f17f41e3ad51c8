use Rattle.std.proofs.Common.{◌≡◌, ◌<◌, ◌+◌, [], length, drop, get_or, sym, ◌∙◌, ap, arith, length-drop}
use Rattle.std.proofs.lemmas.Str.{IsCharBoundary-after_ascii}
use Rattle.gate_lines.specs.Rows.{rows_from}
use Rattle.gate_lines.specs.Places.{Place, place_in, is_inner_blank}
use Rattle.gate_lines.proofs.TextLines.{rows-none}
use Rattle.gate_lines.proofs.Places.{place-nil, end_step, token_here, not_ended}
use Rattle.gate_lines.proofs.cursor.Cursor.finish.Goals as goal

pub returns-then-self-bytes : goal.returns-then-self-bytes
returns-then-self-bytes c =
    let last : c.args.self ≡ record { number = c.self.inside.number; tokens = []; rows = [] } =
    sym c.self.view_is ∙ place-nil c.self.inside.number (drop c.self.inside.at c.self.inside.text.now) (omega (arith, ap length c.as_bytes-bytes.ensures.value, length-drop c.self.inside.at c.self.inside.text.now)) in
    (ap (λ (p : Place). p.tokens) last, c.of.ensures ∙ rows-none c.self.inside.number [] (omega arith) ∙ sym (ap (λ (p : Place). p.rows) last))

pub returns-then-bytes-self-ne10 : goal.returns-then-bytes-self-ne10
returns-then-bytes-self-ne10 c = λ none.
    let here : place_in c.self.inside.number (drop c.self.inside.at c.as_bytes-bytes.result.now) ≡ c.args.self = ap (λ t. place_in c.self.inside.number (drop c.self.inside.at t)) c.as_bytes-bytes.ensures.value ∙ c.self.view_is in
    let within : c.self.inside.at < length c.self.inside.text.now = omega (arith, c.self.invariant.1.0, ap length c.as_bytes-bytes.ensures.value) in
    let l : c.self.inside.at < length c.as_bytes-bytes.result.now = omega (arith, within, ap length c.as_bytes-bytes.ensures.value) in
    token_here c.self.inside.number c.self.inside.at c.as_bytes-bytes.result.now l
    (not_ended (get_or c.as_bytes-bytes.result.now c.self.inside.at 0) (ap (λ t. is_inner_blank (get_or t c.self.inside.at 0)) c.as_bytes-bytes.ensures.value ∙ c.self.invariant.1.1 within) c.if-bytes-self-ne10.true) (ap (λ (p : Place). p.tokens) here ∙ none)

pub split_at-requires : goal.split_at-requires
split_at-requires c =
    let l : c.self.inside.at < length c.self.inside.text.now = omega (arith, c.self.invariant.1.0, ap length c.as_bytes-bytes.ensures.value) in
    let at : get_or c.self.inside.text.now c.self.inside.at 0 ≡ 10 = ap (λ t. get_or t c.self.inside.at 0) (sym c.as_bytes-bytes.ensures.value) ∙ c.if-bytes-self-ne10.false in
    IsCharBoundary-after_ascii c.self.inside.text.now c.self.inside.at c.self.invariant.0 l (omega (arith, at))

pub returns : goal.returns
returns c =
    let l : c.self.inside.at < length c.self.inside.text.now = omega (arith, c.self.invariant.1.0, ap length c.as_bytes-bytes.ensures.value) in
    let at : get_or c.self.inside.text.now c.self.inside.at 0 ≡ 10 = ap (λ t. get_or t c.self.inside.at 0) (sym c.as_bytes-bytes.ensures.value) ∙ c.if-bytes-self-ne10.false in
    let last : c.args.self ≡ record { number = c.self.inside.number; tokens = []; rows = rows_from (c.self.inside.number + 1) (drop (c.self.inside.at + 1) c.self.inside.text.now) } =
    sym c.self.view_is ∙ end_step c.self.inside.number c.self.inside.at c.self.inside.text.now l at in
    (ap (λ (p : Place). p.tokens) last, c.of-2.ensures ∙ ap (rows_from (c.self.inside.number + 1)) c.split_at.ensures.back ∙ sym (ap (λ (p : Place). p.rows) last))
