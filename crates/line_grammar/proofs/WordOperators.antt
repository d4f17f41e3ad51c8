-- Words have + - * alone.
use Rattle.std.proofs.Common.{◌≡◌, ℕ, ◌+◌, ◌⊎◌, inl, inr, true, false, Option, refl}
use Rattle.line_grammar.specs.declared.operator.Infix.{Infix}
use Rattle.line_grammar.specs.declared.operator.Infix.TheVariants as infixes
use Rattle.line_grammar.specs.declared.operator.Prefix.{Prefix}
use Rattle.line_grammar.specs.declared.operator.Prefix.TheVariants.{Not, Negate}
use Rattle.line_grammar.specs.declared.dialect.Dialect.TheVariants.{Words}
use Rattle.line_grammar.specs.Dialects.{has_infix, has_prefix}
use Rattle.line_grammar.specs.Grammar.{Expr, IsExpr}
use Rattle.line_grammar.specs.Grammar.Expr.{number, named, grouped, paired, prefixed, infixed, chosen}
use Rattle.line_grammar.specs.Laws.{HasWordOperators}

one_infix : (o : Infix) → has_infix Words o ≡ true → (o ≡ infixes.Add) ⊎ ((o ≡ infixes.Subtract) ⊎ (o ≡ infixes.Multiply))
one_infix infixes.Add has = inl refl
one_infix infixes.Subtract has = inr (inl refl)
one_infix infixes.Multiply has = inr (inr refl)
one_infix _ has = cc

one_prefix : (x : Prefix) → has_prefix Words x ≡ true → x ≡ Negate
one_prefix Negate has = refl
one_prefix Not has = cc

pub word_operators : (limit : Option ℕ) (n : ℕ) (e : Expr) → IsExpr Words limit n e → HasWordOperators e
word_operators limit n (number at) is = tt
word_operators limit n (named at) is = tt
word_operators limit n (grouped e) is = word_operators limit (n + 1) e is.1
word_operators limit n (paired p a b) is = let no : false ≡ true = is.0 in cc
word_operators limit n (prefixed x at e) is = (one_prefix x is.0, word_operators limit (n + 1) e is.3)
word_operators limit n (infixed o at a b) is = (one_infix o is.0, word_operators limit n a is.3, word_operators limit n b is.4)
word_operators limit n (chosen c a b) is = let no : false ≡ true = is.0 in cc
