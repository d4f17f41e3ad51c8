-- How deep the wires of a compiled circuit are.
use Rattle.std.specs.Prelude.{◌≡◌, ℕ, ◌<◌, List}
use Rattle.circuit_model.specs.Netlists.{input_wires}
use Rattle.layer_order.specs.Depths.{wire_depth}
use Rattle.number_gates.specs.declared.wire.Wire.{Wire}
use Rattle.number_gates.specs.declared.wire.Wire.TheVariants as wires
use Rattle.number_laws.specs.Making.{AreSet}
use Rattle.number_laws.specs.Depths.{IsNoDeeper}
use Rattle.number_circuit.specs.Programs.{Statement}
use Rattle.number_compiler.specs.Circuits.{draft_of, all_gates, number_of, circuit}

-- how many products stand on the longest path to a wire in the circuit of a program
abbrev pub depth_on : List Statement → Wire → ℕ
depth_on p w = wire_depth (circuit p).gates (number_of (draft_of p).result.wires w)

-- an input has depth 0, and the wire of a gate is as deep at most as those that the gate reads, and one deeper where it
-- multiplies
pub record HasDepths (p : List Statement) : Type 0 where
  pub inputs : (i : ℕ) → i < input_wires (circuit p) → depth_on p (wires.Input i) ≡ 0
  pub gates : AreSet (IsNoDeeper (depth_on p)) (all_gates (draft_of p))
