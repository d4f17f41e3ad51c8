use Rattle.std.proofs.Common.{◌≡◌, ◌+◌, ◌<◌, drop, get_or, length, false, sym, ◌∙◌, subst, arith}
use Rattle.std.specs.Char.{is_ascii_digit}
use Rattle.gate_lines.proofs.Digits.{Digits, at_byte, no_digits, one_more, no_number_over, none_at_start, none_at_byte, number_found}
use Rattle.gate_lines.proofs.cursor.long_number.Goals as goal
use Rattle.gate_lines.proofs.cursor.long_number.Goals.{then-loop-at-test+else-is_ascii_digit, else-loop-at-test}

pub loop-at-init : goal.loop-at-init
loop-at-init c = record {
  within = (omega arith, c.requires.0);
  small = omega arith;
  read = no_digits (drop c.args.start c.args.bytes.now);
}

pub returns-in_err-value : goal.returns-in_err-value
returns-in_err-value c =
    c.from_residual.ensures
    ∙ no_number_over 0 (drop c.args.start c.args.bytes.now) (drop (c.loop-at.at + 1) c.args.bytes.now) (get_or c.args.bytes.now c.loop-at.at 0) c.loop-at.value
    (at_byte (drop c.args.start c.args.bytes.now) c.args.bytes.now c.loop-at.at c.loop-at.value c.loop-at-test.true c.loop-at.invariant.read)
    (sym c.is_ascii_digit.ensures.value ∙ c.if-is_ascii_digit.true) c.in_err-value.ensures

pub loop-at-preserved : goal.loop-at-preserved
loop-at-preserved c =
    let more = c.in_ok-value.ensures in record {
      within = (omega arith, omega arith);
      small = omega (arith, more.0, more.1);
      read = subst (Digits (drop c.args.start c.args.bytes.now) (drop (c.loop-at.at + 1) c.args.bytes.now)) (sym more.1)
          (one_more (drop c.args.start c.args.bytes.now) (drop (c.loop-at.at + 1) c.args.bytes.now) (get_or c.args.bytes.now c.loop-at.at 0) c.loop-at.value
          (at_byte (drop c.args.start c.args.bytes.now) c.args.bytes.now c.loop-at.at c.loop-at.value c.loop-at-test.true c.loop-at.invariant.read)
          (sym c.is_ascii_digit.ensures.value ∙ c.if-is_ascii_digit.true));
    }

pub returns-then-at-start : goal.returns-then-at-start
returns-then-at-start c =
    let stop : c.loop-at.at < length c.args.bytes.now → is_ascii_digit (get_or c.args.bytes.now c.loop-at.at 0) ≡ false =
    elim c.loop-at-test.branch [ then-loop-at-test+else-is_ascii_digit w ↦ λ l. sym w.is_ascii_digit.ensures.value ∙ w.if-is_ascii_digit.false | else-loop-at-test w ↦ λ l. absurd (omega (arith, l, w.loop-at-test.false)) ] in
    none_at_start c.args.bytes.now c.args.start c.requires.0 c.requires.1 (subst (λ i. i < length c.args.bytes.now → is_ascii_digit (get_or c.args.bytes.now i 0) ≡ false) c.if-at-start.true stop)

pub returns-in_err-after_token : goal.returns-in_err-after_token
returns-in_err-after_token c =
    let stop : c.loop-at.at < length c.args.bytes.now → is_ascii_digit (get_or c.args.bytes.now c.loop-at.at 0) ≡ false =
    elim c.loop-at-test.branch [ then-loop-at-test+else-is_ascii_digit w ↦ λ l. sym w.is_ascii_digit.ensures.value ∙ w.if-is_ascii_digit.false | else-loop-at-test w ↦ λ l. absurd (omega (arith, l, w.loop-at-test.false)) ] in
    let on = c.in_err-after_token.ensures.goes_on in
    c.from_residual-in_err-after_token.ensures ∙ none_at_byte c.args.bytes.now c.args.start c.loop-at.at c.loop-at.value c.loop-at.invariant.read on.0 (stop on.0) on.1

pub returns : goal.returns
returns c =
    number_found c.args.bytes.now c.args.start c.loop-at.at c.loop-at.value c.loop-at.invariant.read (omega arith) c.loop-at.invariant.within.1 c.in_ok-after_token.ensures.ends c.loop-at.invariant.small
