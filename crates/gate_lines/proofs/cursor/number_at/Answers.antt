use Rattle.std.proofs.Common.{drop, arith}
use Rattle.gate_lines.specs.Places.{place_in}
use Rattle.gate_lines.proofs.Digits.{some_token, digits_between, number_found, number_passes}
use Rattle.gate_lines.proofs.cursor.number_at.Goals as goal

pub returns-in-Some-after_token-clause-number : goal.returns-in-Some-after_token-clause-number
returns-in-Some-after_token-clause-number c =
    number_found c.args.bytes.now c.args.start c.first_digits-value.result.1 c.first_digits-value.result.0
    (digits_between c.args.bytes.now c.args.start c.first_digits-value.result.1 c.first_digits-value.result.0 c.first_digits-value.ensures.within.0 c.first_digits-value.ensures.all c.first_digits-value.ensures.value)
    c.if-end-start.true c.first_digits-value.ensures.within.1 c.in-Some-after_token.ensures.ends (omega arith)

pub returns-in-Some-after_token-clause-past : goal.returns-in-Some-after_token-clause-past
returns-in-Some-after_token-clause-past c =
    number_passes c.args.bytes.now c.args.start c.first_digits-value.result.1 c.in-Some-after_token.next c.first_digits-value.result.0
    (digits_between c.args.bytes.now c.args.start c.first_digits-value.result.1 c.first_digits-value.result.0 c.first_digits-value.ensures.within.0 c.first_digits-value.ensures.all c.first_digits-value.ensures.value)
    c.if-end-start.true c.first_digits-value.ensures.within.1 c.in-Some-after_token.ensures.ends c.in-Some-after_token.ensures.same c.in-Some-after_token.ensures.stands.0 c.in-Some-after_token.ensures.stands.1

pub next_place-requires-clause-token : goal.next_place-requires-clause-token
next_place-requires-clause-token c = some_token (place_in 0 (drop c.args.start c.args.bytes.now)) c.in_ok-value.value c.in_ok-value.ensures
