-- What the line of a refusal tells of a fault of a plan, and of a session.
use Rattle.std.specs.Prelude.{[], ◌∷◌, codes}
use Rattle.fault_table.specs.Tables.{Entry, fault, found_for, Number, Party}
use Rattle.plan_faults.specs.declared.plan_fault.PlanFault.{PlanFault}
use Rattle.plan_faults.specs.declared.plan_fault.PlanFault.TheVariants as plan
use Rattle.plan_faults.specs.declared.part_fault.PartFault.{PartFault}
use Rattle.plan_faults.specs.declared.part_fault.PartFault.TheVariants.{OwnersDiffer, ReadersDiffer, CarryMissing, CarryWidth, Memory}

abbrev pub told_plan_fault : PlanFault → Entry
told_plan_fault (plan.TooManyMessages count) = fault 1 (codes "TooManyMessages") ((codes "count", Number count) ∷ [])
told_plan_fault (plan.TooManyWords party count) =
    fault 2 (codes "TooManyWords") ((codes "party", Party party) ∷ (codes "count", Number count) ∷ [])
told_plan_fault plan.Memory = fault 0 (codes "Memory") []

-- the counts of a session differ, there is no such value, or the widths differ
abbrev pub told_part_fault : PartFault → Entry
told_part_fault (OwnersDiffer wanted found) = fault 1 (codes "OwnersDiffer") (found_for wanted found)
told_part_fault (ReadersDiffer wanted found) = fault 2 (codes "ReadersDiffer") (found_for wanted found)
told_part_fault (CarryMissing wanted found) = fault 3 (codes "CarryMissing") (found_for wanted found)
told_part_fault (CarryWidth wanted found) = fault 4 (codes "CarryWidth") (found_for wanted found)
told_part_fault Memory = fault 0 (codes "Memory") []
