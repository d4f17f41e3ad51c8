-- The circuit of a sample in the making.
use Rattle.std.specs.Prelude.{ℕ, ◌+◌, None, [], ◌∷◌}
use Rattle.list_laws.specs.Lists.{listed}
use Rattle.circuit_model.specs.Netlists.{Netlist}
use Rattle.circuit_model.specs.DraftSteps.{Draft}
use Rattle.sample_maker.specs.Samples.{sample_gate}

-- the first j gates of sample n, over all of its wires
abbrev pub first_gates : ℕ → ℕ → Netlist
first_gates n j = record {
  bits = 32;
  gates = listed j (sample_gate n);
  wires = 4 + n;
  inputs = 2 ∷ 2 ∷ [];
  outputs = 1 ∷ [];
}

-- a draft that has them, without a refusal
abbrev pub sample_draft : ℕ → ℕ → Draft
sample_draft n j = record { circuit = first_gates n j; announced = n; refused = None }
