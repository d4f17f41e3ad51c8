-- What a builder keeps.
use Rattle.std.specs.Prelude.{◌≡◌, ℕ, ◌≤◌, Bool, false, List, length, slice_index_or}
use Rattle.circuit_model.specs.Netlists.{IsWithin, AllGatesFit, sets}
use Rattle.circuit_model.specs.DraftSteps.{Draft}
use Rattle.job_limits.specs.declared.limits.TheConstants.{MOST_GATES}

-- all but the output wires is as in a circuit, no more gates are there than announced, and the list tells which wires
-- are set
pub record IsDraft (d : Draft) (set : List Bool) : Type 0 where
  pub within : IsWithin d.circuit
  pub announced : d.announced ≤ MOST_GATES
  pub few : length d.circuit.gates ≤ d.announced
  pub fits : AllGatesFit d.circuit
  pub told : (w : ℕ) → slice_index_or set w false ≡ sets d.circuit w
