-- The bits on wires, and the numbers that they stand for.
use Rattle.std.specs.Prelude.{◌≡◌, ℕ, ◌%◌, ◌==◌, Bool, true, false, not, ◌&&◌, List, map}
use Rattle.circuit_model.specs.declared.gate.Operation.{Operation}
use Rattle.circuit_model.specs.declared.gate.Operation.TheVariants.{Add, Sub, Neg, Mul, Xor, And, Inv, Eq, Eqw}
use Rattle.binary_numbers.specs.Numbers.{number, unequal}
use Rattle.number_gates.specs.declared.wire.Wire.{Wire}
use Rattle.number_gates.specs.declared.wire.DraftGate.{DraftGate}
use Rattle.number_gates.specs.declared.wire.Bit.{Bit}
use Rattle.number_gates.specs.declared.wire.Bit.TheVariants.{Zero, One, On}
use Rattle.number_gates.specs.Steps.{Steps}
use Rattle.number_laws.specs.Making.{Makes}

-- what an operation with constant c makes of bits
abbrev pub of_bits : Operation → ℕ → Bool → Bool → Bool
of_bits Add c a b = unequal a b
of_bits Sub c a b = unequal a b
of_bits Neg c a b = a
of_bits Mul c a b = a && b
of_bits Xor c a b = unequal a b
of_bits And c a b = a && b
of_bits Inv c a b = not a
of_bits Eq c a b = c % 2 == 1
of_bits Eqw c a b = a

-- the bit that a gate makes of those on wires
abbrev pub made : (Wire → Bool) → DraftGate → Bool
made on g = of_bits g.operation g.constant (on g.first) (on g.second)

-- the wire has the bit that its gate makes
abbrev pub IsMade : (Wire → Bool) → Wire → DraftGate → Type 0
IsMade on w g = on w ≡ made on g

-- this holds of what comes of the steps, by the bits on wires
abbrev pub Computes : {A : Type 0} → (Wire → Bool) → Steps A → (A → Type 0) → Type 0
Computes on steps Q = Makes (IsMade on) steps Q

-- the value of a bit, from those on wires
abbrev pub bit : (Wire → Bool) → Bit → Bool
bit on Zero = false
bit on One = true
bit on (On w) = on w

abbrev pub bits : (Wire → Bool) → List Bit → List Bool
bits on xs = map (bit on) xs

-- the number that bits stand for, from the bits on wires
abbrev pub number_on : (Wire → Bool) → List Bit → ℕ
number_on on xs = number (bits on xs)
