-- Counts of owners and of groups of readers.
use Rattle.std.specs.Prelude.{ℕ, ◌==◌, not, Option, Some, None, if◌then◌else◌}
use Rattle.plan_faults.specs.declared.part_fault.PartFault.{PartFault}
use Rattle.plan_faults.specs.declared.part_fault.PartFault.TheVariants.{OwnersDiffer, ReadersDiffer}

-- for `inputs` input values and `outputs` output values: not as many owners, or else not as many groups of readers
abbrev pub counts_fault : ℕ → ℕ → ℕ → ℕ → Option PartFault
counts_fault inputs owners outputs readers =
    if not (owners == inputs) then Some (OwnersDiffer inputs owners)
    else if not (readers == outputs) then Some (ReadersDiffer outputs readers)
    else None
