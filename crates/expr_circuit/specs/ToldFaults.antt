-- What the line of a refusal tells of a fault of expressions: the line of the text, and the byte of the line or the
-- text.
use Rattle.std.specs.Prelude.{[], ◌++◌, codes}
use Rattle.fault_table.specs.Tables.{Entry, fault, on_line, at_place}
use Rattle.expr_circuit.specs.declared.fault.ExprFault.{ExprFault}
use Rattle.expr_circuit.specs.declared.fault.ExprFault.TheVariants.{NotUtf8, Syntax, UnknownName, BadConstant, TooDeep, TwiceNamed, TooLarge, Memory}

abbrev pub told_expr_fault : ExprFault → Entry
told_expr_fault (NotUtf8 at) = fault 1 (codes "NotUtf8") (at_place at)
told_expr_fault (Syntax line at) = fault 2 (codes "Syntax") (on_line line ++ at_place at)
told_expr_fault (UnknownName line at) = fault 3 (codes "UnknownName") (on_line line ++ at_place at)
told_expr_fault (BadConstant line at) = fault 4 (codes "BadConstant") (on_line line ++ at_place at)
told_expr_fault (TooDeep line at) = fault 5 (codes "TooDeep") (on_line line ++ at_place at)
told_expr_fault (TwiceNamed line) = fault 6 (codes "TwiceNamed") (on_line line)
told_expr_fault TooLarge = fault 7 (codes "TooLarge") []
told_expr_fault Memory = fault 0 (codes "Memory") []
