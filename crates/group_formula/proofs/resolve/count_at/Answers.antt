use Rattle.std.proofs.Common.{◌+◌, ◌-◌, ◌*◌, ◌^◌, ◌≤◌, ℕ, List, Some, None, cond, nat_le, ◌&&◌, drop, get_or, sym, ◌∙◌, ap, arith}
use Rattle.group_formula.specs.Formulas.{decimal}
use Rattle.group_formula.proofs.Numbers.{digit_at, decimal_more, refused_digit, taken_digit, too_large}
use Rattle.group_formula.proofs.resolve.count_at.Goals as goal

pub with_digit-requires : goal.with_digit-requires
with_digit-requires c = digit_at (drop c.args.at c.args.text.now) c.as_bytes-digits.result.now c.loop-byte.byte-index (c.as_bytes-digits.ensures.value ∙ c.number_at.ensures) c.loop-byte-test.true

pub returns-in_err-number : goal.returns-in_err-number
returns-in_err-number c =
    let digits : List ℕ = c.as_bytes-digits.result.now in
    let large : 2 ^ 64 ≤ 10 * c.loop-byte.number + (get_or digits c.loop-byte.byte-index 0 - 48) = refused_digit c.loop-byte.number _ (2 ^ 64) c.in_err-number.ensures in
    c.from_residual.ensures
    ∙ sym (ap (λ ds. cond (nat_le 1 (decimal ds) && nat_le (decimal ds) c.args.parts) (Some (decimal ds)) None) (sym (c.as_bytes-digits.ensures.value ∙ c.number_at.ensures))
    ∙ too_large digits c.loop-byte.byte-index c.args.parts c.loop-byte-test.true (omega (arith, large, c.loop-byte.invariant)) (omega arith))

pub loop-byte-preserved : goal.loop-byte-preserved
loop-byte-preserved c =
    taken_digit c.loop-byte.number _ c.in_ok-number.number c.in_ok-number.ensures.1
    ∙ ap (λ n. 10 * n + (get_or c.as_bytes-digits.result.now c.loop-byte.byte-index 0 - 48)) c.loop-byte.invariant
    ∙ sym (decimal_more c.as_bytes-digits.result.now c.loop-byte.byte-index c.loop-byte-test.true)
