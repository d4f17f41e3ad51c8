use Rattle.std.proofs.Common.{◌≡◌, ◌+◌, ◌*◌, ◌<◌, ◌^◌, true, get_or, sym, ◌∙◌, ap₂, arith}
use Rattle.std.specs.Char.{is_ascii_digit}
use Rattle.gate_lines.proofs.Places.{take_whole}
use Rattle.gate_lines.proofs.Digits.{digits_more, room_at, digit_bounds, small_digit}
use Rattle.gate_lines.proofs.cursor.first_digits.Goals as goal

pub overflow_mul-value : goal.overflow_mul-value
overflow_mul-value c =
    let room : c.loop-at.value < 10 ^ 18 = room_at c.args.bytes.now c.args.start c.loop-at.at c.loop-at.value c.loop-at.invariant.within.0 c.loop-at.invariant.within.1 (omega arith) c.loop-at.invariant.all c.loop-at.invariant.value in
    omega (arith, room)

pub overflow_add-value : goal.overflow_add-value
overflow_add-value c =
    let room : c.loop-at.value < 10 ^ 18 = room_at c.args.bytes.now c.args.start c.loop-at.at c.loop-at.value c.loop-at.invariant.within.0 c.loop-at.invariant.within.1 (omega arith) c.loop-at.invariant.all c.loop-at.invariant.value in
    let digit : is_ascii_digit (get_or c.args.bytes.now c.loop-at.at 0) ≡ true = small_digit (get_or c.args.bytes.now c.loop-at.at 0) c.digit_of.result c.digit_of.ensures.other c.if-digit_of-le9.true in
    omega (arith, room, digit_bounds (get_or c.args.bytes.now c.loop-at.at 0) digit, c.digit_of-in-loop-at.ensures.digit digit)

pub loop-at-preserved : goal.loop-at-preserved
loop-at-preserved c =
    let digit : is_ascii_digit (get_or c.args.bytes.now c.loop-at.at 0) ≡ true = small_digit (get_or c.args.bytes.now c.loop-at.at 0) c.digit_of.result c.digit_of.ensures.other c.if-digit_of-le9.true in
    record {
      within = (omega arith, omega arith, omega arith);
      all = take_whole is_ascii_digit c.args.bytes.now c.args.start c.loop-at.at c.loop-at.invariant.within.0 (omega arith) c.loop-at.invariant.all digit;
      value = ap₂ (λ v d. v * 10 + d) c.loop-at.invariant.value (c.digit_of-in-loop-at.ensures.digit digit) ∙ sym (digits_more c.args.bytes.now c.args.start c.loop-at.at c.loop-at.invariant.within.0 (omega arith) digit);
    }
