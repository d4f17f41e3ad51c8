-- How a draft is kept, and what its steps answer.
use Rattle.std.specs.Prelude.{◌≡◌, ℕ, ◌+◌, ◌<◌, ◌^◌, false, List, ◌∷◌, length, take, Result, Ok, Err}
use Rattle.expr_circuit.specs.declared.fault.ExprFault.{ExprFault}
use Rattle.expr_circuit.specs.declared.fault.ExprFault.TheVariants.{Memory}
use Rattle.expr_circuit.specs.declared.wire.Wire.{Wire}
use Rattle.expr_circuit.specs.declared.wire.DraftGate.{DraftGate}
use Rattle.circuit_model.specs.Netlists.{IsCircuit}
use Rattle.expr_circuit.specs.Circuits.{Draft, Built, number_of, netlist, is_large}
use Rattle.expr_circuit.specs.Walks.{Walk}
use Rattle.job_limits.specs.declared.limits.TheConstants.{MOST_GATES, MOST_VALUES}

-- the fault that is wanted, unless memory ran out
abbrev pub Fails : {B : Type 0} → ExprFault → Result B ExprFault → Type 0
Fails Memory wanted = Unit {0}
Fails fault wanted = wanted ≡ Err fault

-- the answer that is wanted, unless memory ran out
abbrev pub Gives : {A : Type 0} → Result A ExprFault → Result A ExprFault → Type 0
Gives (Ok a) wanted = wanted ≡ Ok a
Gives (Err fault) wanted = Fails fault wanted

-- the wires of gate number g, behind `inputs` inputs, fit in 32 bits
pub record IsNarrow (inputs g : ℕ) (s : DraftGate) : Type 0 where
  pub first : number_of inputs s.first < 2 ^ 32
  pub second : number_of inputs s.second < 2 ^ 32
  pub output : inputs + g < 2 ^ 32

-- the circuit of a draft is a valid one, if it is within the limits
abbrev pub IsSound : ℕ → Draft → Type 0
IsSound bits d = is_large (netlist bits d) ≡ false → IsCircuit (netlist bits d)

-- what is kept of a draft: the gates and outputs within the limits, and how many there are
pub record Kept : Type 0 where
  pub drafted : List DraftGate
  pub gates : ℕ
  pub inputs : ℕ
  pub outputs : List Wire
  pub results : ℕ

abbrev pub kept : Draft → Kept
kept d =
    record {
      drafted = take MOST_GATES d.gates;
      gates = length d.gates;
      inputs = d.inputs;
      outputs = take MOST_VALUES d.outputs;
      results = length d.outputs;
    }

-- this holds, unless memory ran out
abbrev pub OrMemory : {A : Type 0} → Result A ExprFault → Type 0 → Type 0
OrMemory (Ok a) P = P
OrMemory (Err fault) P = fault ≡ Memory

-- the gates and the wires that wait became those of the walk which is wanted, unless memory ran out
abbrev pub Moves : {A : Type 0} → Draft → Result A ExprFault → Kept → List Wire → Result Walk ExprFault → Type 0
Moves d (Ok a) new wires wanted =
    (w : Walk) × (wanted ≡ Ok w) × (new ≡ kept (record d { gates = w.gates })) × (wires ≡ w.wires)
Moves d (Err fault) new wires wanted = Fails fault wanted

-- a gate was added, and the wire that it sets is told, unless memory ran out
abbrev pub Builds : Draft → Built → Result Wire ExprFault → Kept → Type 0
Builds d b (Ok wire) new = (wire ≡ b.wire) × (new ≡ kept (record d { gates = b.gates }))
Builds d b (Err fault) new = fault ≡ Memory

-- the gates became those of the walk which is wanted, in which this wire stands before those that wait
abbrev pub Wires : Draft → Result Wire ExprFault → Kept → List Wire → Result Walk ExprFault → Type 0
Wires d (Ok wire) new wires wanted =
    (gates : List DraftGate)
    × (wanted ≡ Ok (record { gates = gates; wires = wire ∷ wires }))
    × (new ≡ kept (record d { gates = gates }))
Wires d (Err fault) new wires wanted = Fails fault wanted

-- the gates and the wire of an expression
abbrev pub Expresses : Draft → Result Wire ExprFault → Kept → Result Built ExprFault → Type 0
Expresses d (Ok wire) new wanted =
    (b : Built) × (wanted ≡ Ok b) × (wire ≡ b.wire) × (new ≡ kept (record d { gates = b.gates }))
Expresses d (Err fault) new wanted = Fails fault wanted
