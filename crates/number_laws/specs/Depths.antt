-- How many products stand on a path to a wire.
use Rattle.std.specs.Prelude.{ℕ, ◌+◌, ◌≤◌, max, List}
use Rattle.circuit_model.specs.declared.gate.Operation.{Operation}
use Rattle.circuit_model.specs.declared.gate.Operation.TheVariants.{Neg, Inv, Eq, Eqw}
use Rattle.number_gates.specs.declared.wire.Wire.{Wire}
use Rattle.number_gates.specs.declared.wire.DraftGate.{DraftGate}
use Rattle.number_gates.specs.declared.wire.Bit.{Bit}
use Rattle.number_gates.specs.Steps.{Steps}
use Rattle.number_laws.specs.Making.{Makes}
use Rattle.number_laws.specs.Reading.{AreOpen, IsOpen}
use Rattle.number_laws.specs.Costs.{price}

-- the depth of the deepest wire that an operation reads
abbrev pub deepest : (Wire → ℕ) → Operation → Wire → Wire → ℕ
deepest depth Eq a b = 0
deepest depth Eqw a b = depth a
deepest depth Inv a b = depth a
deepest depth Neg a b = depth a
deepest depth _ a b = max (depth a) (depth b)

-- the wire is as deep at most as those that its gate reads, and one deeper where the gate multiplies
abbrev pub IsNoDeeper : (Wire → ℕ) → Wire → DraftGate → Type 0
IsNoDeeper depth w g = depth w ≤ deepest depth g.operation g.first g.second + price g

-- this holds of what comes of the steps, by the depths of wires
abbrev pub Deepens : {A : Type 0} → (Wire → ℕ) → Steps A → (A → Type 0) → Type 0
Deepens depth steps Q = Makes (IsNoDeeper depth) steps Q

-- the bit is known, or on a wire of depth d at most
abbrev pub IsWithin : (Wire → ℕ) → ℕ → Bit → Type 0
IsWithin depth d x = IsOpen (λ w. depth w ≤ d) x

abbrev pub AreWithin : (Wire → ℕ) → ℕ → List Bit → Type 0
AreWithin depth d xs = AreOpen (λ w. depth w ≤ d) xs
