-- The second pass over the elements in postfix order.
use Rattle.std.specs.Prelude.{ℕ, nat_le, nat_lt, ◌&&◌, List, [], ◌∷◌, Option, Some, None, Result, Ok, Err, if◌then◌else◌, unwrap_or}
use Rattle.group_formula.specs.declared.element.FormulaElement.{FormulaElement}
use Rattle.group_formula.specs.declared.element.FormulaElement.TheVariants.{Name, And, Or, AtLeast}
use Rattle.group_formula.specs.declared.fault.FormulaFault.{FormulaFault}
use Rattle.group_formula.specs.declared.fault.FormulaFault.TheVariants.{Syntax, UnknownName, BadCount, TooDeep, TooManyNodes, Memory}
use Rattle.group_formula.specs.Formulas.{Reading, bad_name, bad_count}

-- the number, if it is at least 1 and at most `parts`
abbrev pub good_count : ℕ → ℕ → Option ℕ
good_count number parts = if nat_le 1 number && nat_le number parts then Some number else None

-- where a fault stands
abbrev pub fault_place : FormulaFault → ℕ
fault_place (Syntax at) = at
fault_place (UnknownName at) = at
fault_place (BadCount at) = at
fault_place (TooDeep at) = at
fault_place (TooManyNodes at) = at
fault_place Memory = 0

-- the fault that stands first
abbrev pub earlier : Option FormulaFault → Option FormulaFault → Option FormulaFault
earlier None y = y
earlier (Some x) None = Some x
earlier (Some x) (Some y) = if nat_lt (fault_place x) (fault_place y) then Some x else Some y

-- the fault of an element
abbrev pub bad_element : Reading → FormulaElement → Option FormulaFault
bad_element r (Name at) = bad_name r at
bad_element r And = None
bad_element r Or = None
bad_element r (AtLeast at parts) = bad_count r at parts

-- the element of parties and counts, from the element of places
abbrev pub resolved_element : Reading → FormulaElement → FormulaElement
resolved_element r (Name at) = Name (unwrap_or (r.party at) 0)
resolved_element r And = And
resolved_element r Or = Or
resolved_element r (AtLeast at parts) = AtLeast (r.number at) parts

-- the element, if there is no fault
abbrev pub unless : Option FormulaFault → FormulaElement → Result FormulaElement FormulaFault
unless None element = Ok element
unless (Some fault) element = Err fault

-- what an element means, or its fault
abbrev pub meaning : Reading → FormulaElement → Result FormulaElement FormulaFault
meaning r element = unless (bad_element r element) (resolved_element r element)

-- the fault among the elements that stands first in the text
unfoldable pub least : Reading → List FormulaElement → Option FormulaFault
least r [] = None
least r (n ∷ ns) = earlier (bad_element r n) (least r ns)
