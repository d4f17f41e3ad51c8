-- What the line of a refusal tells of a fault of a file of other inputs: what it would tell in a party's own file, and
-- whose inputs have it.
use Rattle.std.specs.Prelude.{[], codes}
use Rattle.fault_table.specs.Tables.{Entry, fault, of_party}
use Rattle.party_file.specs.ToldFaults.{told_party_fault}
use Rattle.other_file.specs.declared.fault.OtherFault.{OtherFault}
use Rattle.other_file.specs.declared.fault.OtherFault.TheVariants.{File, WrongKind, Inputs, Memory}

abbrev pub told_other_fault : OtherFault → Entry
told_other_fault (File f) = told_party_fault f
told_other_fault (WrongKind p) = of_party p (fault 5 (codes "WrongKind") [])
told_other_fault (Inputs p f) = of_party p (told_party_fault f)
told_other_fault Memory = fault 0 (codes "Memory") []
