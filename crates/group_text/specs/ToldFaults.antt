-- What the line of a refusal tells of a text that names no group.
use Rattle.std.specs.Prelude.{codes}
use Rattle.fault_table.specs.Tables.{Entry, fault, at_place}
use Rattle.group_text.specs.declared.fault.GroupFault.{GroupFault}
use Rattle.group_text.specs.declared.fault.GroupFault.TheVariants.{BadGroup}

abbrev pub told_group_fault : GroupFault → Entry
told_group_fault (BadGroup at) = fault 1 (codes "BadGroup") (at_place at)
