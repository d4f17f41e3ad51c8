-- The first fault of a line.
use Rattle.std.specs.Prelude.{◌≡◌, ℕ, List, [], Option, Some, None}
use Rattle.text_tokens.specs.RunTokens.{bare, tokens}
use Rattle.text_tokens.specs.FirstFaults.{StopsAt, EndsAt}
use Rattle.line_grammar.specs.declared.token.LineToken.{LineToken}
use Rattle.line_grammar.specs.declared.dialect.Dialect.{Dialect}
use Rattle.line_grammar.specs.declared.fault.LineFault.{LineFault}
use Rattle.line_grammar.specs.declared.fault.LineFault.TheVariants.{Syntax, TooDeep}
use Rattle.line_grammar.specs.declared.limits.TheConstants.{MOST_OPEN}
use Rattle.line_grammar.specs.Tokens.{language}
use Rattle.line_grammar.specs.Grammar.{Line, IsViable, spell_line}

-- at most 32 signs may be open at once
abbrev pub shallow : Option ℕ
shallow = Some MOST_OPEN

-- a line without tokens
abbrev pub IsBlank : Dialect → List ℕ → Type 0
IsBlank d text = tokens (language d) text ≡ []

-- the last of the tokens has no fault: some line within the limit begins with them
abbrev pub IsFine : Dialect → List LineToken → Type 0
IsFine d ts = IsViable d shallow ts

-- the text is this line of the grammar
abbrev pub Parses : (d : Dialect) → List ℕ → Line d shallow → Type 0
Parses d text line = spell_line line.form ≡ bare (tokens (language d) text)

-- the first fault of a line: that of its first token with which no line goes on, or goes on within the limit, or of its
-- end
pub data IsLineFault (d : Dialect) (text : List ℕ) (fault : LineFault) : Type 0 where
  syntax_fault : (at : ℕ) → fault ≡ Syntax at
      → StopsAt (language d) (IsFine d) text at (λ ts. IsViable d None ts → ⊥) → IsLineFault d text fault
  depth_fault : (at : ℕ) → fault ≡ TooDeep at
      → StopsAt (language d) (IsFine d) text at (λ ts. IsViable d None ts × (IsFine d ts → ⊥))
      → IsLineFault d text fault
  end_fault : (at : ℕ) → fault ≡ Syntax at → (IsBlank d text → ⊥)
      → EndsAt (language d) (IsFine d) {Form = Line d shallow} (λ line. spell_line line.form) text at
      → IsLineFault d text fault
