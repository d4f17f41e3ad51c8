-- The values of a circuit's wires, in the ring of `bits` bits.
use Rattle.std.specs.Prelude.{ℕ, List, slice_index}
use Rattle.circuit_model.specs.Netlists.{Netlist, plain}

-- the value of each wire, from the words on the input wires
abbrev pub value : ℕ → Netlist → List ℕ → ℕ → ℕ
value bits c inputs = plain (record c { bits = bits }) (slice_index inputs)
