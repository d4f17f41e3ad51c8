-- The faults that a first pass over the tokens finds.
use Rattle.std.specs.Prelude.{ℕ, ◌+◌, ◌≤◌, ◌⊎◌, Bool, true, false, List, count_by}
use Rattle.text_tokens.specs.FirstFaults as faults
use Rattle.text_tokens.specs.FirstFaults.{StopsAt, EndsAt}
use Rattle.group_formula.specs.declared.token.FormulaToken.{FormulaToken}
use Rattle.group_formula.specs.declared.token.FormulaToken.TheVariants.{Open, Close}
use Rattle.group_formula.specs.declared.fault.FormulaFault.{FormulaFault}
use Rattle.group_formula.specs.declared.fault.FormulaFault.TheVariants.{Syntax, TooDeep, TooManyNodes}
use Rattle.group_formula.specs.Tokens.{formula_language, is_element}
use Rattle.group_formula.specs.Grammar.{Expr, spell, IsViable}
use Rattle.group_formula.specs.declared.limits.TheConstants.{MOST_NODES, MOST_OPEN}

-- an opening parenthesis
abbrev pub is_open : FormulaToken → Bool
is_open Open = true
is_open _ = false

-- a closing parenthesis
abbrev pub is_close : FormulaToken → Bool
is_close Close = true
is_close _ = false

-- at most 32 parentheses are open at the end
abbrev pub IsShallow : List FormulaToken → Type 0
IsShallow ts = count_by is_open ts ≤ count_by is_close ts + MOST_OPEN

-- there are at most 256 elements
abbrev pub IsSmall : List FormulaToken → Type 0
IsSmall ts = count_by is_element ts ≤ MOST_NODES

-- the last of the tokens has no fault
pub record IsFine (ts : List FormulaToken) : Type 0 where
  pub viable : IsViable ts
  pub shallow : IsShallow ts
  pub small : IsSmall ts

-- the fault of the first token that has one
abbrev pub IsFirstFault : List ℕ → FormulaFault → Type 0
IsFirstFault text (Syntax at) =
    StopsAt formula_language IsFine text at (λ ts. IsViable ts → ⊥) ⊎ EndsAt formula_language IsFine spell text at
IsFirstFault text (TooDeep at) = StopsAt formula_language IsFine text at (λ ts. IsViable ts × (IsShallow ts → ⊥))
IsFirstFault text (TooManyNodes at) =
    StopsAt formula_language IsFine text at (λ ts. IsViable ts × IsShallow ts × (IsSmall ts → ⊥))
IsFirstFault text _ = ⊥

-- the text is this formula, and none of its tokens has a fault
abbrev pub Parses : List ℕ → Expr → Type 0
Parses text e = faults.Parses formula_language IsFine spell text e
