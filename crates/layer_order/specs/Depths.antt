-- How many products stand on the longest path to each wire of a circuit.
use Rattle.std.specs.Prelude.{◌≡◌, ℕ, ◌+◌, max, if◌then◌else◌, List, [], ◌∷◌, length, slice_index_or}
use Rattle.list_laws.specs.Lists.{greatest}
use Rattle.circuit_model.specs.declared.gate.Gate.{Gate}
use Rattle.circuit_model.specs.Circuits.{is_product, wires_after}
use Rattle.circuit_model.specs.Netlists.{Netlist, IsCircuit, no_gate, read_by}
use Rattle.circuit_model.specs.Equations.{IsSolution}

-- the greatest number that f gives to one of these wires, and 0 where there is none
abbrev pub most : (ℕ → ℕ) → List ℕ → ℕ
most f [] = 0
most f (v ∷ vs) = max (f v) (most f vs)

-- 1 where the gate multiplies
abbrev pub product : Gate → ℕ
product g = if is_product g.operation then 1 else 0

-- gate t of a list
abbrev pub gate_at : List Gate → ℕ → Gate
gate_at gates t = slice_index_or gates t no_gate

-- the depth of the wire that a gate sets: one more than the greatest of those that it reads, where it multiplies, and
-- else just that
abbrev pub depth_made : Gate → (ℕ → ℕ) → ℕ
depth_made g depths = most depths (read_by g) + product g

-- how many products stand on the longest path to each wire through the first t gates
abbrev pub products_to : List Gate → ℕ → ℕ → ℕ
products_to gates = wires_after depth_made (gate_at gates) (λ w. 0)

-- how many stand on the longest path to each wire
abbrev pub wire_depth : List Gate → ℕ → ℕ
wire_depth gates = products_to gates (length gates)

-- the layer of gate t: how many products stand on the longest path to it
abbrev pub layer : List Gate → ℕ → ℕ
layer gates t = most (products_to gates t) (read_by (gate_at gates t))

-- the multiplicative depth: how many products stand on the longest path
abbrev pub depth : List Gate → ℕ
depth gates = greatest (length gates) (λ t. layer gates t + product (gate_at gates t))

-- ---- depths as the solution of equations, which don't know of an order

-- a gate sets a wire of the depth that it makes, and all other wires have depth 0
abbrev pub AreDepths : Netlist → (ℕ → ℕ) → Type 0
AreDepths c = IsSolution depth_made 0 c (λ w. 0)

-- the depths of a valid circuit's wires are so
abbrev pub DepthsSolve : Type 0
DepthsSolve = (c : Netlist) → IsCircuit c → AreDepths c (wire_depth c.gates)

-- no others are
abbrev pub DepthsAlone : Type 0
DepthsAlone =
    (c : Netlist) (depths : ℕ → ℕ) → IsCircuit c → AreDepths c depths → (w : ℕ) → depths w ≡ wire_depth c.gates w
