-- What the line of a refusal tells of a fault of a formula.
use Rattle.std.specs.Prelude.{[], codes}
use Rattle.fault_table.specs.Tables.{Entry, fault, at_place}
use Rattle.group_formula.specs.declared.fault.FormulaFault.{FormulaFault}
use Rattle.group_formula.specs.declared.fault.FormulaFault.TheVariants.{Syntax, UnknownName, BadCount, TooDeep, TooManyNodes, Memory}

abbrev pub told_formula_fault : FormulaFault → Entry
told_formula_fault (Syntax at) = fault 1 (codes "Syntax") (at_place at)
told_formula_fault (UnknownName at) = fault 2 (codes "UnknownName") (at_place at)
told_formula_fault (BadCount at) = fault 3 (codes "BadCount") (at_place at)
told_formula_fault (TooDeep at) = fault 4 (codes "TooDeep") (at_place at)
told_formula_fault (TooManyNodes at) = fault 5 (codes "TooManyNodes") (at_place at)
told_formula_fault Memory = fault 0 (codes "Memory") []
