use Rattle.std.proofs.Common.{sym, ◌∙◌}
use Rattle.text_tokens.proofs.Values.{number_parsed, number_no_digits}
use Rattle.text_tokens.proofs.numbers.number.Goals as goal

pub returns-then-not-is_digits : goal.returns-then-not-is_digits
returns-then-not-is_digits c = sym (number_no_digits c.args.token.now (sym c.is_digits.ensures ∙ c.if-not-is_digits.true))

pub returns : goal.returns
returns c = c.ok.ensures.value ∙ number_parsed c.args.token.now c.parse.result c.parse.ensures.value.0 (sym c.is_digits.ensures ∙ c.if-not-is_digits.false)
