-- The grammar of lines over tokens. Names, numbers and operators are told by their places in the line.
use Rattle.std.specs.Prelude.{◌≡◌, ℕ, ◌+◌, ◌≤◌, nat_le, Bool, true, false, List, [], ◌∷◌, Option, Some, None}
use Rattle.text_tokens.specs.FirstFaults as faults
use Rattle.line_grammar.specs.declared.token.LineToken.{LineToken}
use Rattle.line_grammar.specs.declared.token.LineToken.TheVariants as tokens
use Rattle.line_grammar.specs.declared.operator.Infix.{Infix}
use Rattle.line_grammar.specs.declared.operator.Infix.TheVariants.{Subtract}
use Rattle.line_grammar.specs.declared.operator.Prefix.{Prefix}
use Rattle.line_grammar.specs.declared.operator.Prefix.TheVariants.{Not, Negate}
use Rattle.line_grammar.specs.declared.operator.Pair.{Pair}
use Rattle.line_grammar.specs.declared.dialect.Dialect.{Dialect}
use Rattle.line_grammar.specs.declared.limits.TheConstants.{ATOM}
use Rattle.line_grammar.specs.Levels as levels
use Rattle.line_grammar.specs.Levels.{left, right, prefix_level}
use Rattle.line_grammar.specs.Dialects.{has_infix, has_prefix, has_pairs, has_choice, has_width}

-- a number, a name, what stands in parentheses, `min` or `max` of two, an operator and its operand, an operator between
-- two operands, or the choice between two by a third, which stands first
pub data Expr : Type 0 where
  number : ℕ → Expr
  named : ℕ → Expr
  grouped : Expr → Expr
  paired : Pair → Expr → Expr → Expr
  prefixed : Prefix → ℕ → Expr → Expr
  infixed : Infix → ℕ → Expr → Expr → Expr
  chosen : Expr → Expr → Expr → Expr

-- the level of an expression: the higher, the tighter
abbrev pub level : Expr → ℕ
level (number at) = ATOM
level (named at) = ATOM
level (grouped e) = ATOM
level (paired p a b) = ATOM
level (prefixed x at e) = prefix_level x
level (infixed o at a b) = levels.level o
level (chosen c a b) = 0

-- at most as many signs as the limit says are open; None is no limit
abbrev pub within : Option ℕ → ℕ → Bool
within None n = true
within (Some most) n = nat_le n most

-- n signs are open, and one more may be
abbrev pub HasRoom : Option ℕ → ℕ → Type 0
HasRoom limit n = within limit (n + 1) ≡ true

-- the language has each operator, each operand has the level that its operator wants, and no more signs are open at
-- once than the limit says, where n are open before the expression
abbrev pub IsExpr : Dialect → Option ℕ → ℕ → Expr → Type 0
IsExpr d limit n (number at) = Unit {0}
IsExpr d limit n (named at) = Unit {0}
IsExpr d limit n (grouped e) = HasRoom limit n × IsExpr d limit (n + 1) e
IsExpr d limit n (paired p a b) =
    (has_pairs d ≡ true) × HasRoom limit n × IsExpr d limit (n + 1) a × IsExpr d limit (n + 1) b
IsExpr d limit n (prefixed x at e) =
    (has_prefix d x ≡ true) × (prefix_level x ≤ level e) × HasRoom limit n × IsExpr d limit (n + 1) e
IsExpr d limit n (infixed o at a b) =
    (has_infix d o ≡ true) × (left o ≤ level a) × (right o ≤ level b) × IsExpr d limit n a × IsExpr d limit n b
IsExpr d limit n (chosen c a b) =
    (has_choice d ≡ true) × HasRoom limit n
    × IsExpr d limit (n + 1) c × IsExpr d limit (n + 1) a × IsExpr d limit (n + 1) b

-- how an operator before its operand is written
abbrev pub prefix_token : Prefix → ℕ → LineToken
prefix_token Not at = tokens.Not at
prefix_token Negate at = tokens.Infix Subtract at

-- the tokens of an expression, and then others
abbrev pub spell : Expr → List LineToken → List LineToken
spell (number at) rest = tokens.Number at ∷ rest
spell (named at) rest = tokens.Name at ∷ rest
spell (grouped e) rest = tokens.Open ∷ spell e (tokens.Close ∷ rest)
spell (paired p a b) rest =
    tokens.Pair p ∷ tokens.Open ∷ spell a (tokens.Comma ∷ spell b (tokens.Close ∷ rest))
spell (prefixed x at e) rest = prefix_token x at ∷ spell e rest
spell (infixed o at a b) rest = spell a (tokens.Infix o at ∷ spell b rest)
spell (chosen c a b) rest = tokens.If ∷ spell c (tokens.Then ∷ spell a (tokens.Else ∷ spell b rest))

-- line = "input" name [width] | "let" name "=" expr | "output" expr
pub data LineForm : Type 0 where
  input_line : ℕ → LineForm
  wide_input_line : ℕ → ℕ → LineForm
  let_line : ℕ → Expr → LineForm
  output_line : Expr → LineForm

-- the line is one of the language, within the limit
abbrev pub IsLine : Dialect → Option ℕ → LineForm → Type 0
IsLine d limit (input_line x) = has_width d ≡ false
IsLine d limit (wide_input_line x w) = has_width d ≡ true
IsLine d limit (let_line x e) = IsExpr d limit 0 e
IsLine d limit (output_line e) = IsExpr d limit 0 e

-- the tokens of a line
abbrev pub spell_line : LineForm → List LineToken
spell_line (input_line x) = tokens.Input ∷ tokens.Name x ∷ []
spell_line (wide_input_line x w) = tokens.Input ∷ tokens.Name x ∷ tokens.Number w ∷ []
spell_line (let_line x e) = tokens.Let ∷ tokens.Name x ∷ tokens.Equals ∷ spell e []
spell_line (output_line e) = tokens.Output ∷ spell e []

-- a line of the language within the limit
pub record Line (d : Dialect) (limit : Option ℕ) : Type 0 where
  pub form : LineForm
  pub is : IsLine d limit form

-- some line within the limit begins with the tokens
abbrev pub IsViable : Dialect → Option ℕ → List LineToken → Type 0
IsViable d limit ts = faults.IsViable {Form = Line d limit} (λ line. spell_line line.form) ts
