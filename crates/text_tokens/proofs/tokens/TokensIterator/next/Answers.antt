use Rattle.std.proofs.Common.{◌≡◌, ◌∷◌, [], ℕ, sym, ◌∙◌, ap₂, subst}
use Rattle.std.specs.Str.{IsCharBoundary}
use Rattle.text_tokens.specs.Tokens.{tokens_of}
use Rattle.text_tokens.proofs.FirstTokens.{tokens-cut, tokens-end, boundary_after_blanks, boundary_before_blank, tokens_go}
use Rattle.text_tokens.proofs.tokens.TokensIterator.next.Goals as goal

pub split_at-requires : goal.split_at-requires
split_at-requires c =
    let P : ℕ → Type 0 = IsCharBoundary c.self.inside.rest.now in
    subst P (sym c.blank_len.ensures) (boundary_after_blanks c.self.inside.rest.now c.self.invariant)

pub returns-then-is_empty-clause-steps : goal.returns-then-is_empty-clause-steps
returns-then-is_empty-clause-steps c =
    let none : c.args.self.now ≡ [] = sym c.self.view_is ∙ tokens-end c.self.inside.rest.now c.split_at.result.1.now c.blank_len.result c.split_at.ensures.back c.blank_len.ensures (sym c.is_empty.ensures ∙ c.if-is_empty.true) in
    (none, none)

pub split_at-requires-2 : goal.split_at-requires-2
split_at-requires-2 c =
    let P : ℕ → Type 0 = IsCharBoundary c.split_at.result.1.now in
    subst P (sym c.run_len.ensures) (boundary_before_blank c.split_at.result.1.now)

pub returns-clause-steps : goal.returns-clause-steps
returns-clause-steps c =
    sym c.self.view_is ∙ tokens-cut c.self.inside.rest.now c.split_at.result.1.now c.blank_len.result c.run_len.result c.split_at.ensures.back c.blank_len.ensures (sym c.is_empty.ensures ∙ c.if-is_empty.false) c.run_len.ensures
    ∙ ap₂ (λ t rest. t ∷ tokens_of rest) (sym c.split_at-2.ensures.front) (sym c.split_at-2.ensures.back)

pub returns-clause-goes : goal.returns-clause-goes
returns-clause-goes c = tokens_go c.args.self.now (tokens_of c.split_at-2.result.1.now) c.split_at-2.result.0
    (sym c.self.view_is ∙ tokens-cut c.self.inside.rest.now c.split_at.result.1.now c.blank_len.result c.run_len.result c.split_at.ensures.back c.blank_len.ensures (sym c.is_empty.ensures ∙ c.if-is_empty.false) c.run_len.ensures
    ∙ ap₂ (λ t rest. t ∷ tokens_of rest) (sym c.split_at-2.ensures.front) (sym c.split_at-2.ensures.back))
