-- Circuits: gates over numbered wires, of which the first are the input wires and the last the output wires.
use Rattle.std.specs.Prelude.{◌≡◌, ℕ, ◌-◌, ◌^◌, ◌<◌, ◌≤◌, nat_lt, ◌==◌, Bool, true, false, ◌||◌, if◌then◌else◌, List, [], ◌∷◌, length, take, sum, slice_index_or}
use Rattle.std.specs.List.{list_all, list_any}
use Rattle.circuit_model.specs.declared.gate.Gate.{Gate}
use Rattle.circuit_model.specs.declared.gate.Operation.{Operation}
use Rattle.circuit_model.specs.declared.gate.Operation.TheVariants.{Add, Sub, Neg, Mul, Xor, And, Inv, Eq, Eqw}
use Rattle.circuit_model.specs.Circuits.{values}
use Rattle.job_limits.specs.declared.limits.TheConstants.{MOST_GATES, MOST_WIRES, MOST_VALUES}

-- gates over `wires` wires, for words of `bits` bits, and how many wires each input and output value has
pub record Netlist : Type 0 where
  pub bits : ℕ
  pub gates : List Gate
  pub wires : ℕ
  pub inputs : List ℕ
  pub outputs : List ℕ

-- what stands for a gate that isn't there
abbrev pub no_gate : Gate
no_gate = record { operation = Add; first = 0; second = 0; output = 0; constant = 0 }

-- gate t
abbrev pub gate : Netlist → ℕ → Gate
gate c t = slice_index_or c.gates t no_gate

-- how many input wires there are
abbrev pub input_wires : Netlist → ℕ
input_wires c = sum c.inputs

-- how many output wires there are
abbrev pub output_wires : Netlist → ℕ
output_wires c = sum c.outputs

-- how many wires, or constants, an operation takes
abbrev pub arity : Operation → ℕ
arity Add = 2
arity Sub = 2
arity Mul = 2
arity Xor = 2
arity And = 2
arity Neg = 1
arity Inv = 1
arity Eq = 1
arity Eqw = 1

-- the operation takes a constant
abbrev pub is_constant : Operation → Bool
is_constant Eq = true
is_constant _ = false

-- the wires among what an operation takes
abbrev pub inputs_read : Operation → List ℕ → List ℕ
inputs_read o taken = if is_constant o then [] else taken

-- the wires that a gate reads
abbrev pub read_by : Gate → List ℕ
read_by g = inputs_read g.operation (take (arity g.operation) (g.first ∷ g.second ∷ []))

-- the wire is one of the `inputs` input wires, or one of the gates sets it
abbrev pub is_set : ℕ → List Gate → ℕ → Bool
is_set inputs gates w = nat_lt w inputs || list_any (λ (g : Gate). g.output == w) gates

-- the wire is set in the end
abbrev pub sets : Netlist → ℕ → Bool
sets c = is_set (input_wires c) c.gates

-- a field that the operation doesn't use is 0
pub record IsPlain (g : Gate) : Type 0 where
  pub first : is_constant g.operation ≡ true → g.first ≡ 0
  pub second : arity g.operation ≡ 1 → g.second ≡ 0
  pub constant : is_constant g.operation ≡ false → g.constant ≡ 0

-- after these gates a gate reads only wires that are set, and sets a wire that isn't
pub record GateFits (c : Netlist) (before : List Gate) (g : Gate) : Type 0 where
  pub plain : IsPlain g
  pub constant : g.constant < 2 ^ c.bits
  pub below : list_all (λ w. nat_lt w c.wires) (read_by g) ≡ true
  pub output : g.output < c.wires
  pub read : list_all (is_set (input_wires c) before) (read_by g) ≡ true
  pub fresh : is_set (input_wires c) before g.output ≡ false

-- each gate fits after those before it
abbrev pub AllGatesFit : Netlist → Type 0
AllGatesFit c = (t : ℕ) → t < length c.gates → GateFits c (take t c.gates) (gate c t)

-- the circuit is within the limits
pub record IsWithin (c : Netlist) : Type 0 where
  pub some_bits : 0 < c.bits
  pub bits : c.bits ≤ 64
  pub gates : length c.gates ≤ MOST_GATES
  pub wires : c.wires ≤ MOST_WIRES
  pub inputs : length c.inputs ≤ MOST_VALUES
  pub outputs : length c.outputs ≤ MOST_VALUES
  pub input_wires : input_wires c ≤ c.wires
  pub output_wires : output_wires c ≤ c.wires

-- the circuit is within the limits, each gate fits after those before it, and each output wire is set
pub record IsCircuit (c : Netlist) : Type 0 where
  pub within : IsWithin c
  pub fits : AllGatesFit c
  pub outputs : (w : ℕ) → c.wires - output_wires c ≤ w → w < c.wires → sets c w ≡ true

-- the words on the wires before the first gate
abbrev pub before_gates : Netlist → (ℕ → ℕ) → ℕ → ℕ
before_gates c inputs w = if nat_lt w (input_wires c) then inputs w else 0

-- the value of each wire, from the words on the input wires
abbrev pub plain : Netlist → (ℕ → ℕ) → ℕ → ℕ
plain c inputs = values (2 ^ c.bits) (gate c) (before_gates c inputs) (length c.gates)
