use Rattle.std.proofs.Common.{rules, tests, not, ◌∙◌}
use Rattle.std.proofs.lemmas.Iterator.{YieldsList-from_slice}
use Rattle.std.proofs.lemmas.Iterator.Search.{position_from_yields_List}
use Rattle.text_tokens.specs.Tokens.{is_blank}
use Rattle.text_tokens.proofs.FirstTokens.{first_or_len}
use Rattle.text_tokens.proofs.tokens.blank_len.Goals as goal

pub returns : goal.returns
returns c = c.unwrap_or.ensures ∙ first_or_len (λ c. not (is_blank c)) c.args.text.now c.position.result
    (position_from_yields_List _ _ _ c.position.result c.position.ensures.ran (YieldsList-from_slice c.args.text.now cc) (λ x b q k. search (rules, tests)))
