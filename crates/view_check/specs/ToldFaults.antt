-- What the line of a refusal tells of a fault of a written view.
use Rattle.std.specs.Prelude.{[], ◌∷◌, ◌++◌, codes}
use Rattle.fault_table.specs.Tables.{Entry, fault, on_line, found_for, Number}
use Rattle.view_check.specs.declared.fault.CheckFault.{CheckFault}
use Rattle.view_check.specs.declared.fault.CheckFault.TheVariants.{BadHead, BadLine, WrongKey, WrongWord, FewLines, ExtraLine, Memory}

abbrev pub told_check_fault : CheckFault → Entry
told_check_fault BadHead = fault 1 (codes "BadHead") []
told_check_fault (BadLine line) = fault 2 (codes "BadLine") (on_line line)
told_check_fault (WrongKey line) = fault 3 (codes "WrongKey") (on_line line)
told_check_fault (WrongWord line wanted found) = fault 4 (codes "WrongWord") (on_line line ++ found_for wanted found)
told_check_fault (FewLines found) = fault 5 (codes "FewLines") ((codes "found", Number found) ∷ [])
told_check_fault (ExtraLine line) = fault 6 (codes "ExtraLine") (on_line line)
told_check_fault Memory = fault 0 (codes "Memory") []
