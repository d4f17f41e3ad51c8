use Rattle.std.proofs.Common.{rules, tests, sym, ◌∙◌}
use Rattle.std.specs.Char.{is_ascii_digit}
use Rattle.std.proofs.lemmas.Iterator.{YieldsList-from_slice}
use Rattle.std.proofs.lemmas.Iterator.Search.{all_from_yields_List}
use Rattle.text_tokens.proofs.Values.{all-is_digits}
use Rattle.text_tokens.proofs.numbers.is_digits.Goals as goal

pub returns-then-not-is_empty : goal.returns-then-not-is_empty
returns-then-not-is_empty c =
    all_from_yields_List is_ascii_digit _ _ c.all.result c.all.ensures.ran (YieldsList-from_slice c.args.token.now cc) (λ x b q k. search (rules, tests))
    ∙ all-is_digits c.args.token.now (sym c.is_empty.ensures ∙ c.if-not-is_empty.true)
