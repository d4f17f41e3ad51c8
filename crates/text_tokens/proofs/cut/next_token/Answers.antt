use Rattle.std.proofs.Common.{◌+◌, ◌∷◌, ℕ, drop, sym, ◌∙◌, ap, ap₂, arith}
use Rattle.std.specs.List.{prefix_len}
use Rattle.std.proofs.lemmas.List.{take_rest}
use Rattle.text_tokens.specs.RunTokens.{token_at, first_length, tokens_from}
use Rattle.text_tokens.proofs.NextTokens.{none_left, next_is}
use Rattle.text_tokens.proofs.cut.next_token.Goals as goal

pub returns-then-at-text-clause-found : goal.returns-then-at-text-clause-found
returns-then-at-text-clause-found g c =
    let language = g.L.TokenLanguage.language c.args.language in
    none_left language c.args.text.now c.args.from c.blank_length.result (c.blank_length.ensures.is ∙ ap (prefix_len language.is_blank) (take_rest c.args.text.now c.args.from)) c.if-at-text.true

pub returns-clause-found : goal.returns-clause-found
returns-clause-found g c =
    let language = g.L.TokenLanguage.language c.args.language in
    let at : ℕ = c.args.from + c.blank_length.result in
    let rest = take_rest c.args.text.now at in
    next_is language c.args.text.now c.args.from c.blank_length.result (c.blank_length.ensures.is ∙ ap (prefix_len language.is_blank) (take_rest c.args.text.now c.args.from)) (omega arith)
    ∙ ap₂ (λ token length. record { at = at; token = token } ∷ tokens_from language (at + length) language.is_blank (drop (at + length) c.args.text.now))
    (sym (c.first_token-token.ensures.token ∙ ap (token_at language at) rest)) (sym (c.first_token-token.ensures.length ∙ ap (first_length language) rest))
