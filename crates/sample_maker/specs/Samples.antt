-- The sample jobs, one for each number n of gates: parties a, b and c, of which any two are qualified, words of 32
-- bits, and one session.
use Rattle.std.specs.Prelude.{ℕ, ◌+◌, ◌*◌, ◌%◌, false, ◌==◌, if◌then◌else◌, List, [], ◌∷◌, replicate, codes}
use Rattle.list_laws.specs.Lists.{listed}
use Rattle.circuit_model.specs.declared.gate.Gate.{Gate}
use Rattle.circuit_model.specs.declared.gate.Operation.{Operation}
use Rattle.circuit_model.specs.declared.gate.Operation.TheVariants.{Mul, Add, Sub, Neg}
use Rattle.circuit_model.specs.Netlists.{arity}
use Rattle.session_slots.specs.declared.values.Owner.TheVariants.{Party}
use Rattle.session_slots.specs.Sessions.{Session}
use Rattle.plan_model.specs.Multiply.{three_parties}
use Rattle.plan_model.specs.Plans.{Plan, plan_of, words}
use Rattle.tape_words.specs.Seeds.{seed_word}
use Rattle.share_world.specs.Worlds.{World}
use Rattle.desk_laws.specs.Pieces.{world_of_pieces}
use Rattle.plan_model.specs.InputWords.{InputLists}

-- the operation of gate j
abbrev pub sample_operation : ℕ → ℕ → Operation
sample_operation n j =
    if (j + n) % 4 == 0 then Mul
    else if (j + n) % 4 == 1 then Add
    else if (j + n) % 4 == 2 then Sub
    else Neg

-- the first wire that gate j may read
abbrev pub first_operand : ℕ → ℕ → ℕ
first_operand n j = (7 * j + n) % (4 + j)

-- the second
abbrev pub second_operand : ℕ → ℕ
second_operand j = (11 * j + 3) % (4 + j)

-- gate j, which sets the first wire that isn't set yet
abbrev pub sample_gate : ℕ → ℕ → Gate
sample_gate n j = record {
  operation = sample_operation n j;
  first = first_operand n j;
  second = if arity (sample_operation n j) == 2 then second_operand j else 0;
  output = 4 + j;
  constant = 0;
}

-- a gives two wires and b two, and all three parties read the last
abbrev pub sample_session : ℕ → Session
sample_session n = record {
  gates = listed n (sample_gate n);
  wires = 4 + n;
  inputs = record { width = 2; owner = Party 0 } ∷ record { width = 2; owner = Party 1 } ∷ [];
  outputs = record { width = 1; readers = record { parties = 3; mask = 7 } } ∷ [];
  prepared = false;
  ahead = false;
  kept = [];
}

-- the plan, in the ring of 32 bits
abbrev pub sample_plan : ℕ → Plan
sample_plan n = plan_of 32 three_parties (sample_session n ∷ [])

-- the word of input wire w
abbrev pub sample_word : ℕ → ℕ → ℕ
sample_word n w = n * (w + 1)

-- what each party gives
abbrev pub sample_inputs : ℕ → InputLists
sample_inputs n =
    ((sample_word n 0 ∷ sample_word n 1 ∷ []) ∷ [])
    ∷ ((sample_word n 2 ∷ sample_word n 3 ∷ []) ∷ [])
    ∷ ([] ∷ [])
    ∷ []

-- the seed of party p
abbrev pub sample_seed : ℕ → List ℕ
sample_seed p = replicate 32 (p + 1)

-- as many words of party p's seed as it draws in the session
abbrev pub sample_piece : Plan → ℕ → List ℕ
sample_piece plan p = listed (words plan p 0) (seed_word plan.bits (sample_seed p) 0)

-- the piece of each party
abbrev pub sample_pieces : ℕ → List (List ℕ)
sample_pieces n = listed 3 (sample_piece (sample_plan n))

-- the names of the parties
abbrev pub sample_names : List (List ℕ)
sample_names = codes "a" ∷ codes "b" ∷ codes "c" ∷ []

-- the world of sample n over pieces of tape
abbrev pub sample_world : ℕ → List (List ℕ) → World
sample_world n = world_of_pieces (sample_plan n) (sample_inputs n)

-- the world of sample n, over the pieces of its own seeds
abbrev pub sample_job : ℕ → World
sample_job n = sample_world n (sample_pieces n)
