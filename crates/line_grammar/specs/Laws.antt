-- What a line says, and the laws of the grammar.
use Rattle.std.specs.Prelude.{◌≡◌, ℕ, ◌⊎◌, List, Option, Some, None}
use Rattle.line_grammar.specs.declared.dialect.Dialect.{Dialect}
use Rattle.line_grammar.specs.declared.fault.LineFault.{LineFault}
use Rattle.line_grammar.specs.declared.fault.LineFault.TheVariants.{Memory}
use Rattle.line_grammar.specs.declared.operator.Infix.TheVariants.{Add, Subtract, Multiply}
use Rattle.line_grammar.specs.declared.operator.Prefix.TheVariants.{Negate}
use Rattle.line_grammar.specs.Grammar.{Expr, Line}
use Rattle.line_grammar.specs.Grammar.Expr.{number, named, grouped, paired, prefixed, infixed, chosen}
use Rattle.line_grammar.specs.LineFaults.{shallow, IsBlank, Parses, IsLineFault}
use Rattle.line_grammar.specs.Machine.{Read}
use Rattle.line_grammar.specs.Postfix.{read_of}

-- what is kept is that of the line which the text is, and nothing where it has no tokens
abbrev pub IsRead : Dialect → List ℕ → Option Read → Type 0
IsRead d text None = IsBlank d text
IsRead d text (Some found) = (line : Line d shallow) × Parses d text line × (found ≡ read_of line.form)

-- the fault, unless memory ran out
abbrev pub Refuses : Dialect → List ℕ → LineFault → Type 0
Refuses d text Memory = Unit {0}
Refuses d text fault = IsLineFault d text fault

-- each text is blank, or one line as it is kept, or has one first fault, and never two of them
pub record HasOneReading (d : Dialect) (text : List ℕ) : Type 0 where
  pub some : ((found : Option Read) × IsRead d text found) ⊎ ((fault : LineFault) × IsLineFault d text fault)
  pub one_line : (a b : Option Read) → IsRead d text a → IsRead d text b → a ≡ b
  pub one_fault : (f g : LineFault) → IsLineFault d text f → IsLineFault d text g → f ≡ g
  pub not_both : (found : Option Read) (f : LineFault) → IsRead d text found → IsLineFault d text f → ⊥

-- the expression has no operators but + - * between operands and - before one, and no choice
abbrev pub HasWordOperators : Expr → Type 0
HasWordOperators (number at) = Unit {0}
HasWordOperators (named at) = Unit {0}
HasWordOperators (grouped e) = HasWordOperators e
HasWordOperators (paired p a b) = ⊥
HasWordOperators (prefixed x at e) = (x ≡ Negate) × HasWordOperators e
HasWordOperators (infixed o at a b) =
    ((o ≡ Add) ⊎ ((o ≡ Subtract) ⊎ (o ≡ Multiply))) × HasWordOperators a × HasWordOperators b
HasWordOperators (chosen c a b) = ⊥
