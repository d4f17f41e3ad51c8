-- What gates of numbers make, and what they cost.
use Rattle.std.specs.Prelude.{◌≡◌, ℕ, ◌+◌, ◌-◌, ◌*◌, max, nat_lt, nat_eq, not, Bool, List, length, if◌then◌else◌}
use Rattle.circuit_model.specs.Circuits.{operate}
use Rattle.circuit_model.specs.declared.gate.Operation.{Operation}
use Rattle.binary_numbers.specs.Numbers.{worth}
use Rattle.binary_numbers.specs.Quotients.{IsQuotient}
use Rattle.number_gates.specs.declared.wire.Wire.{Wire}
use Rattle.number_gates.specs.declared.wire.Bit.{Bit}
use Rattle.number_gates.specs.declared.wire.Bit.TheVariants.{On}
use Rattle.number_gates.specs.Steps.{Steps}
use Rattle.number_gates.specs.BitGates.{opposite, both, differ}
use Rattle.number_gates.specs.Numbers.{choose, some, equal, less, sum, difference}
use Rattle.number_gates.specs.Products.{product}
use Rattle.number_gates.specs.Quotients.{divided}
use Rattle.number_laws.specs.Making.{Gives}
use Rattle.number_laws.specs.Values.{bit, number_on, of_bits, Computes}
use Rattle.number_laws.specs.Reading.{IsOpen, AreOpen, Reads}
use Rattle.number_laws.specs.Costs.{AtMost}
use Rattle.number_laws.specs.Depths.{IsWithin, AreWithin, Deepens}

-- an operation of a circuit over words of one bit makes of bits what it makes of their words
abbrev pub MakesBits : Operation → Type 0
MakesBits o = (c : ℕ) (x y : Bool) → operate 2 o c (worth x) (worth y) ≡ worth (of_bits o c x y)

-- ---- values

-- a bit tells what a test says of numbers, and the bits of a result stand for the right number
pub record AreNumbers (on : Wire → Bool) (a b : List Bit) : Type 0 where
  pub equal : Computes on (equal a b) (λ o. bit on o ≡ nat_eq (number_on on a) (number_on on b))
  pub less : Computes on (less a b) (λ o. bit on o ≡ nat_lt (number_on on a) (number_on on b))
  pub some : Computes on (some a) (λ o. bit on o ≡ not (nat_eq (number_on on a) 0))
  pub choose : (which : Bit)
      → Computes on (choose which a b) (λ c. number_on on c ≡ (if bit on which then number_on on a else number_on on b))
  pub sum : Computes on (sum a b) (λ c. number_on on c ≡ number_on on a + number_on on b)
  pub difference : Computes on (difference a b) (λ c. number_on on c ≡ number_on on a - number_on on b)
  pub product : Computes on (product a b) (λ c. number_on on c ≡ number_on on a * number_on on b)
  pub divided : Computes on (divided a b) (λ t.
      IsQuotient (number_on on a) (number_on on b) (number_on on t.quotient) (number_on on t.rest))

-- how many bits a result has
pub record HaveLengths (a b : List Bit) : Type 0 where
  pub choose : (which : Bit) → Gives (choose which a b) (λ c. length c ≡ max (length a) (length b))
  pub sum : Gives (sum a b) (λ c. length c ≡ max (length a) (length b) + 1)
  pub difference : Gives (difference a b) (λ c. length c ≡ max (length a) (length b))
  pub product : Gives (product a b) (λ c. length c ≡ length a + length b)
  pub divided : Gives (divided a b) (λ t. (length t.quotient ≡ length a) × (length t.rest ≡ length a))

-- ---- wires

-- gates read only wires of P, and those of gates before them, and a result is on such wires
pub record AreReading (P : Wire → Type 0) (a b : List Bit) : Type 0 where
  pub equal : Reads P (equal a b) (IsOpen P)
  pub less : Reads P (less a b) (IsOpen P)
  pub some : Reads P (some a) (IsOpen P)
  pub choose : (which : Bit) → IsOpen P which → Reads P (choose which a b) (AreOpen P)
  pub sum : Reads P (sum a b) (AreOpen P)
  pub difference : Reads P (difference a b) (AreOpen P)
  pub product : Reads P (product a b) (AreOpen P)
  pub divided : Reads P (divided a b) (λ t. AreOpen P t.quotient × AreOpen P t.rest)

-- ---- costs

-- the bit is a known one
abbrev pub IsKnown : Bit → Type 0
IsKnown (On w) = ⊥
IsKnown _ = Unit {0}

-- what costs no product: the other bit, whether bits differ, and what a known bit is joined with
pub record AreFree (a b : Bit) : Type 0 where
  pub opposite : AtMost 0 (opposite a)
  pub differ : AtMost 0 (differ a b)
  pub first : IsKnown a → AtMost 0 (both a b)
  pub second : IsKnown b → AtMost 0 (both a b)

-- how many products there are at most, where the wider of both numbers has w bits, which are at most 2 ^ k
pub record AreFew (a b : List Bit) (w k : ℕ) : Type 0 where
  pub equal : AtMost (w - 1) (equal a b)
  pub less : AtMost (3 * w - 2) (less a b)
  pub some : AtMost (length a - 1) (some a)
  pub choose : (which : Bit) → AtMost w (choose which a b)
  pub sum : AtMost (w * (k + 1)) (sum a b)
  pub difference : AtMost (w * (k + 2)) (difference a b)
  pub product : AtMost (3 * length a * length b + 2 * length a * k + (length a + length b) * (k + 2)) (product a b)
  pub divided : AtMost (length a * (w * (k + 2) + 1) + length b) (divided a b)

-- how deep a result is at most, where both numbers have depth d at most
pub record AreShallow (depth : Wire → ℕ) (a b : List Bit) (d k : ℕ) : Type 0 where
  pub equal : Deepens depth (equal a b) (IsWithin depth (d + k))
  pub less : Deepens depth (less a b) (IsWithin depth (d + k + 1))
  pub some : Deepens depth (some a) (IsWithin depth (d + k))
  pub choose : (which : Bit) → IsWithin depth d which → Deepens depth (choose which a b) (AreWithin depth (d + 1))
  pub sum : Deepens depth (sum a b) (AreWithin depth (d + k + 1))
  pub difference : Deepens depth (difference a b) (AreWithin depth (d + k + 2))
  pub product : Deepens depth (product a b) (AreWithin depth (d + 3 * k + 2))
  pub divided : Deepens depth (divided a b) (λ t.
      AreWithin depth (d + length a * (k + 1) + 1) t.quotient × AreWithin depth (d + length a * (k + 1) + 1) t.rest)

-- ---- with numbers, for two numbers of at most 32 bits, on wires that no product stands before

-- a bit, and bits, after at most n products, at depth d at most
abbrev pub TellsAfter : (Wire → ℕ) → ℕ → ℕ → Steps Bit → Type 0
TellsAfter depth n d steps = AtMost n steps × Deepens depth steps (IsWithin depth d)

abbrev pub GivesAfter : (Wire → ℕ) → ℕ → ℕ → Steps (List Bit) → Type 0
GivesAfter depth n d steps = AtMost n steps × Deepens depth steps (AreWithin depth d)

pub record Cost32 (depth : Wire → ℕ) (a b : List Bit) : Type 0 where
  pub equal : TellsAfter depth 31 5 (equal a b)
  pub less : TellsAfter depth 94 6 (less a b)
  pub some : TellsAfter depth 31 5 (some a)
  pub choose : (which : Bit) → IsWithin depth 0 which → GivesAfter depth 32 1 (choose which a b)
  pub sum : GivesAfter depth 192 6 (sum a b)
  pub difference : GivesAfter depth 224 7 (difference a b)
  pub product : GivesAfter depth 3840 17 (product a b)
  pub divided : AtMost 7232 (divided a b)
      × Deepens depth (divided a b) (λ t. AreWithin depth 193 t.quotient × AreWithin depth 193 t.rest)
