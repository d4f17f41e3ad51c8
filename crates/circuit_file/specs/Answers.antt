-- Answers that are given unless memory runs out.
use Rattle.std.specs.Prelude.{◌≡◌, Result, Ok, Err}
use Rattle.circuit_model.specs.declared.fault.CircuitFault.{CircuitFault}
use Rattle.circuit_model.specs.declared.fault.CircuitFault.TheVariants.{Memory}

-- the fault that is wanted, unless memory ran out
abbrev pub Fails : {A : Type 0} → CircuitFault → Result A CircuitFault → Type 0
Fails Memory wanted = Unit {0}
Fails f wanted = Err f ≡ wanted

-- the answer that is wanted, as it is seen, unless memory ran out
abbrev pub Shows : {A B : Type 0} → (A → B) → Result A CircuitFault → Result B CircuitFault → Type 0
Shows view (Ok a) wanted = Ok (view a) ≡ wanted
Shows view (Err f) wanted = Fails f wanted
