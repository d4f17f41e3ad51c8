use Rattle.std.proofs.Common.{rules, tests, not, nat_lt, ◌^◌, ◌∙◌}
use Rattle.std.proofs.lemmas.Iterator.{YieldsList-from_slice}
use Rattle.std.proofs.lemmas.Iterator.Search.{position_from_yields_List}
use Rattle.text_tokens.proofs.FirstTokens.{first_or_len}
use Rattle.party_file.specs.Table.{first_outside}
use Rattle.party_file.proofs.numbers.first_outside.Goals as goal

pub returns : goal.returns
unfolding first_outside
returns c = c.unwrap_or.ensures ∙ first_or_len (λ word. not (nat_lt word (2 ^ c.args.ring))) c.args.words.now c.position.result
    (position_from_yields_List _ _ _ c.position.result c.position.ensures.ran (YieldsList-from_slice c.args.words.now cc) (λ x b q k. search (rules, tests)))
