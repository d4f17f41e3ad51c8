-- Where the messages of a slot begin, and the words of a session.
use Rattle.std.specs.Prelude.{◌≡◌, ℕ, ◌+◌, ◌≤◌, List, length, slice_index}
use Rattle.std.specs.List.{range_with_len}
use Rattle.list_laws.specs.Lists.{total, listed}
use Rattle.plan_model.specs.Plans.{Plan, slot, slots, words_in, words, place}
use Rattle.plan_model.specs.Messages.{slot_messages}
use Rattle.plan_model.specs.Tallies.{tape_length}

-- how many messages stand in slot k of session s
abbrev pub count : Plan → ℕ → ℕ → ℕ
count plan s k = length (slot_messages plan s k (slot plan s k))

-- how many messages stand in session s
abbrev pub session_count : Plan → ℕ → ℕ
session_count plan s = total (slots plan s) (count plan s)

-- the number of the first message of slot k of session s
abbrev pub first : Plan → ℕ → ℕ → ℕ
first plan s k = total s (session_count plan) + total k (count plan s)

-- the numbers of a slot's messages
abbrev pub numbers : Plan → ℕ → ℕ → List ℕ
numbers plan s k = range_with_len (first plan s k) (count plan s k)

-- where the messages of each slot of session s begin, and at the end where those after them do
abbrev pub session_starts : Plan → ℕ → List ℕ
session_starts plan s = listed (slots plan s + 1) (first plan s)

-- so for each session
abbrev pub starts_of : Plan → List (List ℕ)
starts_of plan = listed (length plan.sessions) (session_starts plan)

-- how many tape words p draws before each session, and at the end in all
abbrev pub word_starts : Plan → ℕ → List ℕ
word_starts plan p = listed (length plan.sessions + 1) (λ s. total s (words plan p))

-- so for each party
abbrev pub word_starts_of : Plan → List (List ℕ)
word_starts_of plan = listed plan.parties (word_starts plan)

-- the places on p's tape: each session's first is the one that its table has, each slot's are behind those of the slot
-- before it, each session's behind those of the session before it, and the last is the end of the tape
pub record PlacesByWords (plan : Plan) (p : ℕ) : Type 0 where
  pub table : (s : ℕ) → s ≤ length plan.sessions → slice_index (word_starts plan p) s ≡ place plan p s 0
  pub next_slot : (s k : ℕ) → place plan p s (k + 1) ≡ place plan p s k + words_in plan s p (slot plan s k)
  pub next_session : (s : ℕ) → place plan p (s + 1) 0 ≡ place plan p s (slots plan s)
  pub end : place plan p (length plan.sessions) 0 ≡ tape_length plan p
