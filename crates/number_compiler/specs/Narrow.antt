-- Gates whose wires have numbers of 32 bits.
use Rattle.std.specs.Prelude.{ℕ, ◌+◌, ◌^◌, ◌<◌}
use Rattle.number_gates.specs.declared.wire.DraftGate.{DraftGate}
use Rattle.number_compiler.specs.Circuits.{number_of}

-- the wires of gate number g, behind `inputs` input wires, fit in 32 bits
pub record IsNarrow (inputs g : ℕ) (s : DraftGate) : Type 0 where
  pub first : number_of inputs s.first < 2 ^ 32
  pub second : number_of inputs s.second < 2 ^ 32
  pub output : inputs + g < 2 ^ 32
