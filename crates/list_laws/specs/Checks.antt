-- Lists of checks, of which the first that failed gives the fault.
use Rattle.std.specs.Prelude.{Bool, List, [], ◌∷◌, Option, Some, None, Result, Ok, Err, if◌then◌else◌}
use Rattle.std.specs.Option.{option_or}

-- the fault of a check that failed
infix 4 ◌answers◌
abbrev pub ◌answers◌ : {F : Type 0} → Bool → F → Option F
failed answers fault = if failed then Some fault else None

-- the fault of the first check that failed
abbrev pub first_fault : {F : Type 0} → List (Option F) → Option F
first_fault [] = None
first_fault (check ∷ checks) = option_or check (first_fault checks)

-- a value, where there is no fault
abbrev pub or_fault : {F A : Type 0} → Option F → A → Result A F
or_fault None value = Ok value
or_fault (Some fault) value = Err fault

-- the answer, where there is no fault before it
abbrev pub then_fault : {F A : Type 0} → Option F → Result A F → Result A F
then_fault None answer = answer
then_fault (Some fault) answer = Err fault
