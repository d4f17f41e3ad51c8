-- The inputs of all parties.
use Rattle.std.specs.Prelude.{◌≡◌, ℕ, ◌<◌, ◌^◌, List, [], map, length, slice_index, slice_index_or}
use Rattle.std.specs.Global.{Vec}
use Rattle.plan_model.specs.Plans.{Plan, input_count}

-- inputs by party, session and position
abbrev pub InputLists : Type 0
InputLists = List (List (List ℕ))

-- what party p gives in session s
abbrev pub given : InputLists → ℕ → ℕ → List ℕ
given inputs p s = slice_index_or (slice_index_or inputs p []) s []

-- each party gives a word of the ring for each of its input wires
pub record AreInputs (plan : Plan) (inputs : InputLists) : Type 0 where
  pub parties : length inputs ≡ plan.parties
  pub sessions : (p : ℕ) → p < plan.parties → length (slice_index_or inputs p []) ≡ length plan.sessions
  pub counts : (p s : ℕ) → p < plan.parties → s < length plan.sessions
      → length (given inputs p s) ≡ input_count plan p s
  pub below : (p s k : ℕ) → slice_index (given inputs p s) k < 2 ^ plan.bits

-- the words of one party's vectors, and of all parties'
abbrev pub session_words : List (Vec ℕ) → List (List ℕ)
session_words sessions = map (λ (words : Vec ℕ). words.items) sessions

-- the words of all parties' vectors
abbrev pub input_words : List (Vec (Vec ℕ)) → InputLists
input_words inputs = map (λ (sessions : Vec (Vec ℕ)). session_words sessions.items) inputs
