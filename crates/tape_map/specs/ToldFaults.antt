-- What the line of a refusal tells where other inputs can't be hidden.
use Rattle.std.specs.Prelude.{ℕ, [], ◌∷◌, ◌++◌, codes}
use Rattle.fault_table.specs.Tables.{Keys, Entry, fault, Number, Party}
use Rattle.tape_map.specs.declared.fault.MapFault.{MapFault}
use Rattle.tape_map.specs.declared.fault.MapFault.TheVariants.{NotTolerated, InputDiffers, OutputDiffers, Memory}

-- a wire of a session
abbrev pub on_wire : ℕ → ℕ → Keys
on_wire session wire = (codes "session", Number session) ∷ (codes "wire", Number wire) ∷ []

-- two words that differ
abbrev pub differing : ℕ → ℕ → Keys
differing first second = (codes "first", Number first) ∷ (codes "second", Number second) ∷ []

abbrev pub told_map_fault : MapFault → Entry
told_map_fault NotTolerated = fault 1 (codes "NotTolerated") []
told_map_fault (InputDiffers session wire first second) =
    fault 2 (codes "InputDiffers") (on_wire session wire ++ differing first second)
told_map_fault (OutputDiffers session wire recipient first second) =
    fault 3 (codes "OutputDiffers")
    (on_wire session wire ++ (codes "recipient", Party recipient) ∷ differing first second)
told_map_fault Memory = fault 0 (codes "Memory") []
