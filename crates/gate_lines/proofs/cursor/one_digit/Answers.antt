use Rattle.std.proofs.Common.{◌≡◌, ◌+◌, ◌-◌, ◌<◌, ◌^◌, true, get_or, drop, Some, sym, ◌∙◌, ap, subst, arith}
use Rattle.std.specs.Char.{is_ascii_digit}
use Rattle.text_tokens.specs.Tokens.{is_blank}
use Rattle.gate_lines.specs.Places.{place_in, is_inner_blank, StandsAt}
use Rattle.gate_lines.proofs.Places.{blank_step}
use Rattle.gate_lines.proofs.Digits.{digit_found, digit_bounds, number_found, number_passes}
use Rattle.gate_lines.proofs.cursor.one_digit.Goals as goal

pub returns-then-is_ascii_digit-clause-number : goal.returns-then-is_ascii_digit-clause-number
returns-then-is_ascii_digit-clause-number c =
    let space = c.if-is_one_space.ensures in
    let digit : is_ascii_digit (get_or c.args.bytes.now c.args.start 0) ≡ true = sym c.is_ascii_digit.ensures.value ∙ c.if-is_ascii_digit.true in
    let small : get_or c.args.bytes.now c.args.start 0 - 48 < 2 ^ 64 = omega (arith, (digit_bounds (get_or c.args.bytes.now c.args.start 0) digit).1) in
    ap Some c.from.ensures
    ∙ number_found c.args.bytes.now c.args.start (c.args.start + 1) (get_or c.args.bytes.now c.args.start 0 - 48) (digit_found c.args.bytes.now c.args.start (omega (arith, space.0)) digit) (omega arith) (omega (arith, space.0)) (λ l. ap is_blank space.1)
    small

pub returns-then-is_ascii_digit-clause-past : goal.returns-then-is_ascii_digit-clause-past
returns-then-is_ascii_digit-clause-past c =
    let space = c.if-is_one_space.ensures in
    let digit : is_ascii_digit (get_or c.args.bytes.now c.args.start 0) ≡ true = sym c.is_ascii_digit.ensures.value ∙ c.if-is_ascii_digit.true in
    let two : c.args.start + 1 + 1 ≡ c.args.start + 2 = omega arith in
    number_passes c.args.bytes.now c.args.start (c.args.start + 1) (c.args.start + 2) (get_or c.args.bytes.now c.args.start 0 - 48) (digit_found c.args.bytes.now c.args.start (omega (arith, space.0)) digit) (omega arith) (omega (arith, space.0))
    (λ l. ap is_blank space.1) (λ n. ap (λ i. place_in n (drop i c.args.bytes.now)) (sym two) ∙ blank_step n (c.args.start + 1) c.args.bytes.now space.0 (ap is_inner_blank space.1)) (omega arith) (subst (StandsAt c.args.bytes.now) two space.2)
