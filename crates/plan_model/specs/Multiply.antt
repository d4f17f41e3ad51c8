-- The plan of one product: three parties of which any two are qualified, the inputs of a and b, and c reads the
-- product.
use Rattle.std.specs.Prelude.{ℕ, false, [], ◌∷◌}
use Rattle.circuit_model.specs.declared.gate.Operation.TheVariants.{Mul}
use Rattle.party_set.specs.Parties.{Structure}
use Rattle.session_slots.specs.declared.values.Owner.TheVariants.{Party}
use Rattle.session_slots.specs.Sessions.{Session}
use Rattle.plan_model.specs.Plans.{Plan, plan_of}

-- any two of a, b and c are qualified
abbrev pub three_parties : Structure
three_parties = record { parties = 3; groups = 1 ∷ 2 ∷ 4 ∷ [] }

-- one product, of an input of a and one of b, which c reads
abbrev pub multiply_session : Session
multiply_session = record {
  gates = record { operation = Mul; first = 0; second = 1; output = 2; constant = 0 } ∷ [];
  wires = 3;
  inputs = record { width = 1; owner = Party 0 } ∷ record { width = 1; owner = Party 1 } ∷ [];
  outputs = record { width = 1; readers = record { parties = 3; mask = 4 } } ∷ [];
  prepared = false;
  ahead = false;
  kept = [];
}

-- in the ring of `bits` bits
abbrev pub multiply_plan : ℕ → Plan
multiply_plan bits = plan_of bits three_parties (multiply_session ∷ [])
