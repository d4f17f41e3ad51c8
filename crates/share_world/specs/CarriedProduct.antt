-- The worked job of two products, in the ring of 8 bits: nobody opens 5 times 7, and a second session multiplies it by
-- 3.
use Rattle.std.specs.Prelude.{◌≡◌, false, [], ◌∷◌, map}
use Rattle.circuit_model.specs.declared.gate.Operation.TheVariants.{Mul}
use Rattle.session_slots.specs.declared.values.Owner.TheVariants.{Party, Carried}
use Rattle.session_slots.specs.Sessions.{Session}
use Rattle.plan_model.specs.Plans.{Plan, plan_of}
use Rattle.plan_model.specs.Multiply.{three_parties}
use Rattle.plan_model.specs.Messages.{messages}
use Rattle.share_world.specs.Worlds.{World, word, plain}
use Rattle.share_world.specs.Laws.{IsWhole}

-- the product of an input of a and one of b, which is kept for the next session
abbrev pub kept_session : Session
kept_session = record {
  gates = record { operation = Mul; first = 0; second = 1; output = 2; constant = 0 } ∷ [];
  wires = 3;
  inputs = record { width = 1; owner = Party 0 } ∷ record { width = 1; owner = Party 1 } ∷ [];
  outputs = record { width = 1; readers = record { parties = 3; mask = 0 } } ∷ [];
  prepared = false;
  ahead = false;
  kept = record { session = 1; wire = 0; output = 0 } ∷ [];
}

-- its product with another input of a, which c reads
abbrev pub carrying_session : Session
carrying_session = record {
  gates = record { operation = Mul; first = 0; second = 1; output = 2; constant = 0 } ∷ [];
  wires = 3;
  inputs = record { width = 1; owner = Carried 0 0 } ∷ record { width = 1; owner = Party 0 } ∷ [];
  outputs = record { width = 1; readers = record { parties = 3; mask = 4 } } ∷ [];
  prepared = false;
  ahead = false;
  kept = [];
}

-- both sessions
abbrev pub carried_plan : Plan
carried_plan = plan_of 8 three_parties (kept_session ∷ carrying_session ∷ [])

-- a gives 5 and then 3, b gives 7, and each party has a tape
abbrev pub carried_world : World
carried_world = record {
  plan = carried_plan;
  inputs = ((5 ∷ []) ∷ (3 ∷ []) ∷ []) ∷ ((7 ∷ []) ∷ [] ∷ []) ∷ ([] ∷ [] ∷ []) ∷ [];
  tapes = (10 ∷ 20 ∷ 1 ∷ 2 ∷ 11 ∷ 21 ∷ 1 ∷ 2 ∷ []) ∷ (30 ∷ 40 ∷ 3 ∷ 4 ∷ 3 ∷ 4 ∷ []) ∷ (5 ∷ 6 ∷ 5 ∷ 6 ∷ []) ∷ [];
}

-- the words of its 26 messages of the first session, of which the last six are kept, and of its 17 of the second
abbrev pub CarriedWords : Type 0
CarriedWords =
    map (word carried_world) (messages carried_plan)
    ≡ 10 ∷ 10 ∷ 20 ∷ 231 ∷ 30 ∷ 40 ∷ 40 ∷ 193 ∷ 1 ∷ 1 ∷ 2 ∷ 112 ∷ 3 ∷ 4 ∷ 4 ∷ 193 ∷ 5 ∷ 6 ∷ 221 ∷ 221
    ∷ 9 ∷ 9 ∷ 12 ∷ 12 ∷ 14 ∷ 14
    ∷ 11 ∷ 11 ∷ 21 ∷ 227 ∷ 1 ∷ 1 ∷ 2 ∷ 45 ∷ 3 ∷ 4 ∷ 4 ∷ 241 ∷ 5 ∷ 6 ∷ 54 ∷ 54 ∷ 84 ∷ []

-- the product of both sessions is 105
abbrev pub CarriedPlain : Type 0
CarriedPlain = plain carried_world 1 2 ≡ 105

-- the world is whole
abbrev pub CarriedWhole : Type 0
CarriedWhole = IsWhole carried_world
