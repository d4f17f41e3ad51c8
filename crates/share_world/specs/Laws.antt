-- What a valid world is, the law of sums, and the law of local runs.
use Rattle.std.specs.Prelude.{◌≡◌, ℕ, ◌%◌, ◌^◌, ◌<◌, true, List, [], length, slice_index, slice_index_or}
use Rattle.list_laws.specs.Lists.{total}
use Rattle.secret_sharing.specs.Schemes.{summands}
use Rattle.session_slots.specs.Sessions.{output_wire, readers}
use Rattle.plan_model.specs.Plans.{Plan, IsPlan, is_holder, session}
use Rattle.plan_model.specs.Sound.{IsSound}
use Rattle.plan_model.specs.Messages.{messages}
use Rattle.plan_model.specs.Numbers.{message}
use Rattle.plan_model.specs.Tallies.{tape_length}
use Rattle.plan_model.specs.InputWords.{AreInputs}
use Rattle.share_world.specs.Worlds.{World, run_of, end_summands, plain, word}
use Rattle.share_world.specs.Locals.{local_run, local_word, local_output}

-- ---- worlds

-- the plan is valid, and each input is a number of the ring
pub record IsWorld (w : World) : Type 0 where
  pub plan : IsPlan w.plan
  pub inputs : (p s k : ℕ) → slice_index (slice_index_or (slice_index_or w.inputs p []) s []) k < 2 ^ w.plan.bits

-- each party has a tape of as many words of the ring as it draws
pub record AreTapes (plan : Plan) (tapes : List (List ℕ)) : Type 0 where
  pub parties : length tapes ≡ plan.parties
  pub lengths : (p : ℕ) → p < plan.parties → length (slice_index_or tapes p []) ≡ tape_length plan p
  pub below : (p i : ℕ) → slice_index (slice_index_or tapes p []) i < 2 ^ plan.bits

-- a world within the limits: a sound plan, with the inputs and the tapes that it asks for
pub record IsWhole (w : World) : Type 0 where
  pub sound : IsSound w.plan
  pub inputs : AreInputs w.plan w.inputs
  pub tapes : AreTapes w.plan w.tapes

-- ---- sums

-- the summands of each wire add up to its value
abbrev pub SumIsPlain : World → Type 0
SumIsPlain w =
    (s v : ℕ) → total (length w.plan.groups) (end_summands w s v) % 2 ^ w.plan.bits ≡ plain w s v

-- ---- local runs over the words of the equations

-- the summands that a party holds are those of the equations
abbrev pub HeldAreDealt : World → Type 0
HeldAreDealt w =
    (p s t v i : ℕ) → i < length w.plan.groups → is_holder w.plan p i ≡ true
    → summands (local_run w (word w) p s) t v i ≡ summands (run_of w s) t v i

-- the words that it sends are those of the equations
abbrev pub SentAreWords : World → Type 0
SentAreWords w =
    (n : ℕ) → n < length (messages w.plan)
    → local_word w (word w) (message w.plan n).sender (message w.plan n) ≡ word w (message w.plan n)

-- the outputs that it opens are the plain values
abbrev pub OpenedArePlain : World → Type 0
OpenedArePlain w =
    (p s o : ℕ) → o < length (readers (session w.plan s))
    → local_output w (word w) p s o ≡ plain w s (output_wire (session w.plan s) o)
