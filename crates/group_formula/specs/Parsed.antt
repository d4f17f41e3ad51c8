-- What the first pass answers.
use Rattle.std.specs.Prelude.{◌≡◌, ℕ, List}
use Rattle.group_formula.specs.declared.element.FormulaElement.{FormulaElement}
use Rattle.group_formula.specs.declared.fault.FormulaFault.{FormulaFault}
use Rattle.group_formula.specs.declared.fault.FormulaFault.TheVariants.{Memory}
use Rattle.group_formula.specs.Grammar.{Expr, shape}
use Rattle.group_formula.specs.Postfix.{postfix}
use Rattle.group_formula.specs.Faults.{Parses, IsFirstFault}

-- the elements of the text's formula, by their places
pub record IsParsed (text : List ℕ) (elements : List FormulaElement) : Type 0 where
  pub expr : Expr
  pub parsed : Parses text expr
  pub written : elements ≡ postfix (shape expr)

-- what the first pass answers in place of the elements
abbrev pub StopsParsing : List ℕ → FormulaFault → Type 0
StopsParsing text Memory = Unit {0}
StopsParsing text fault = IsFirstFault text fault
