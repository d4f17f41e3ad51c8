-- Which wires gates read. P says which may be read.
use Rattle.std.specs.Prelude.{◌≡◌, ℕ, ◌+◌, ◌<◌, List, [], ◌∷◌}
use Rattle.circuit_model.specs.declared.gate.Operation.{Operation}
use Rattle.circuit_model.specs.declared.gate.Operation.TheVariants.{Xor, And, Inv, Eq, Eqw}
use Rattle.number_gates.specs.declared.wire.Wire.{Wire}
use Rattle.number_gates.specs.declared.wire.Wire.TheVariants as wires
use Rattle.number_gates.specs.declared.wire.DraftGate.{DraftGate}
use Rattle.number_gates.specs.declared.wire.Bit.{Bit}
use Rattle.number_gates.specs.declared.wire.Bit.TheVariants.{Zero, One, On}
use Rattle.number_gates.specs.Steps.{Steps, done, add}
use Rattle.number_gates.specs.BitGates.{no_wire}

-- the bit is known, or on a wire that may be read
abbrev pub IsOpen : (Wire → Type 0) → Bit → Type 0
IsOpen P Zero = Unit {0}
IsOpen P One = Unit {0}
IsOpen P (On w) = P w

abbrev pub AreOpen : (Wire → Type 0) → List Bit → Type 0
AreOpen P [] = Unit {0}
AreOpen P (x ∷ xs) = IsOpen P x × AreOpen P xs

-- a gate of an operation with constant c reads wires that may be read, and what it doesn't use is 0
abbrev pub ReadsAs : (Wire → Type 0) → Operation → Wire → Wire → ℕ → Type 0
ReadsAs P Xor a b c = P a × P b × (c ≡ 0)
ReadsAs P And a b c = P a × P b × (c ≡ 0)
ReadsAs P Inv a b c = P a × (b ≡ no_wire) × (c ≡ 0)
ReadsAs P Eqw a b c = P a × (b ≡ no_wire) × (c ≡ 0)
ReadsAs P Eq a b c = (a ≡ no_wire) × (b ≡ no_wire) × (c < 2)
ReadsAs P _ a b c = ⊥

abbrev pub GateReads : (Wire → Type 0) → DraftGate → Type 0
GateReads P g = ReadsAs P g.operation g.first g.second g.constant

-- so does each gate of the steps, where each new wire may be read, and this holds then of what comes of them
abbrev pub Asks : {A : Type 0} → (Wire → Type 0) → Steps A → (A → Type 0) → Type 0
Asks P (done a) Q = Q a
Asks P (add g rest) Q = GateReads P g × ((w : Wire) → P w → Asks P (rest w) Q)

pub record Reads {A : Type 0} (P : Wire → Type 0) (steps : Steps A) (Q : A → Type 0) : Type 0 where
  pub asks : Asks P steps Q

-- the wire is one of m input wires, or that of one of the first g gates
abbrev pub IsBelow : ℕ → ℕ → Wire → Type 0
IsBelow m g (wires.Input i) = i < m
IsBelow m g (wires.Gate k) = k < g

-- each gate, from number g on, reads wires before it
abbrev pub FitFrom : ℕ → ℕ → List DraftGate → Type 0
FitFrom m g [] = Unit {0}
FitFrom m g (s ∷ ss) = GateReads (IsBelow m g) s × FitFrom m (g + 1) ss
