-- What holds of every text.
use Rattle.std.specs.Prelude.{◌≡◌, ◌⊎◌, ℕ, List}
use Rattle.group_formula.specs.declared.fault.FormulaFault.{FormulaFault}
use Rattle.group_formula.specs.Trees.{Meaning}
use Rattle.group_formula.specs.Formulas.{IsFormula, IsFault}

-- a text stands for a formula exactly where it has no fault, and for one only; it has one fault at most
pub record HasOneAnswer (text : List ℕ) (names : List (List ℕ)) : Type 0 where
  pub some : ((f : Meaning) × IsFormula text names f) ⊎ ((fault : FormulaFault) × IsFault text names fault)
  pub not_both : (f : Meaning) (fault : FormulaFault) → IsFormula text names f → IsFault text names fault → ⊥
  pub one_formula : (f g : Meaning) → IsFormula text names f → IsFormula text names g → f ≡ g
  pub one_fault : (a b : FormulaFault) → IsFault text names a → IsFault text names b → a ≡ b
