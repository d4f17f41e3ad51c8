-- Answers, unless memory ran out.
use Rattle.std.specs.Prelude.{◌≡◌, Result, Ok, Err}
use Rattle.circuit_model.specs.declared.fault.CircuitFault.{CircuitFault}
use Rattle.circuit_model.specs.declared.fault.CircuitFault.TheVariants.{Memory}

-- the answer that is wanted, unless memory ran out
abbrev pub Gives : {A : Type 0} → Result A CircuitFault → Result A CircuitFault → Type 0
Gives (Ok a) wanted = Ok a ≡ wanted
Gives (Err Memory) wanted = Unit {0}
Gives (Err f) wanted = Err f ≡ wanted
