-- Counts in the worked job of one product, in the ring of one bit.
use Rattle.std.specs.Prelude.{◌≡◌, ℕ, [], ◌∷◌, length}
use Rattle.plan_model.specs.Multiply.{multiply_plan}
use Rattle.share_world.specs.Worlds.{World, view}
use Rattle.tape_map.specs.TapeMaps.{with_inputs}
use Rattle.tape_map.specs.Multiply.{given_by}
use Rattle.view_counts.specs.Counts.{choices, ways, is_view}
use Rattle.view_counts.specs.Simulators.{known, simulated_ways}

-- a gives 1, and b gives 1
abbrev pub bit_world : World
bit_world = record {
  plan = multiply_plan 1;
  inputs = given_by 1 1;
  tapes = (0 ∷ 1 ∷ 1 ∷ 0 ∷ []) ∷ (1 ∷ 1 ∷ 0 ∷ 1 ∷ []) ∷ (0 ∷ 1 ∷ []) ∷ [];
}

-- in as many ways a group sees what it sees in this world, where b gives 1
abbrev pub first_ways : ℕ → ℕ
first_ways group = ways bit_world group (is_view (view bit_world group))

-- and in as many where b gives 0
abbrev pub other_ways : ℕ → ℕ
other_ways group =
    ways (with_inputs bit_world (given_by 1 0)) group (is_view (view bit_world group))

-- and in as many the simulator shows it
abbrev pub simulator_ways : ℕ → ℕ
simulator_ways group =
    simulated_ways (multiply_plan 1) group (known bit_world group) (is_view (view bit_world group))

-- b and c draw four bits and two
abbrev pub ChoicesForA : Type 0
ChoicesForA = length (choices (multiply_plan 1) 1 bit_world.tapes) ≡ 64

-- a sees what it sees in one of them, whatever b gives, and the simulator shows it in one
abbrev pub WaysForA : Type 0
WaysForA = (first_ways 1 ≡ 1) × (other_ways 1 ≡ 1) × (simulator_ways 1 ≡ 1)

-- c reads the product, which another input changes; the simulator makes the view of what c reads
abbrev pub WaysForC : Type 0
WaysForC = (first_ways 4 ≡ 1) × (other_ways 4 ≡ 0) × (simulator_ways 4 ≡ 1)

-- a and c aren't tolerated together: they can tell, and nothing can be made of what they know
abbrev pub WaysForBoth : Type 0
WaysForBoth = (first_ways 5 ≡ 1) × (other_ways 5 ≡ 0) × (simulator_ways 5 ≡ 0)

-- a knows its input and its tape, and reads nothing
abbrev pub KnownToA : Type 0
KnownToA =
    known bit_world 1
    ≡ record {
      inputs = ((1 ∷ []) ∷ []) ∷ [] ∷ [] ∷ [];
      outputs = (0 ∷ []) ∷ [];
      tapes = (0 ∷ 1 ∷ 1 ∷ 0 ∷ []) ∷ [] ∷ [] ∷ [];
    }

-- c gives nothing, and reads the product
abbrev pub KnownToC : Type 0
KnownToC =
    known bit_world 4
    ≡ record {
      inputs = [] ∷ [] ∷ ([] ∷ []) ∷ [];
      outputs = (1 ∷ []) ∷ [];
      tapes = [] ∷ [] ∷ (0 ∷ 1 ∷ []) ∷ [];
    }
