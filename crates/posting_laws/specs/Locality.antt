-- That what a party computes by itself is of its own: its inputs, its tape, and the words that came to it.
use Rattle.std.specs.Prelude.{◌≡◌, ℕ, ◌<◌, List, [], length, slice_index_or}
use Rattle.plan_model.specs.InputWords.{InputLists}
use Rattle.plan_model.specs.Messages.{messages}
use Rattle.plan_model.specs.Numbers.{message}
use Rattle.plan_model.specs.declared.key.Key.{Key}
use Rattle.share_world.specs.Locals.{local_output, local_word}
use Rattle.share_world.specs.Worlds.{World}

-- among these inputs and tapes of all parties, party p has its own
pub record HasOwn (w : World) (p : ℕ) (inputs : InputLists) (tapes : List (List ℕ)) : Type 0 where
  pub input : slice_index_or inputs p [] ≡ slice_index_or w.inputs p []
  pub tape : slice_index_or tapes p [] ≡ slice_index_or w.tapes p []

-- the same words came to party p
abbrev pub SameCame : ℕ → (Key → ℕ) → (Key → ℕ) → Type 0
SameCame p got other = (key : Key) → key.receiver ≡ p → got key ≡ other key

-- so whatever the inputs and tapes of the others are, and whatever came to them, it computes the same words and outputs
pub record ComputesSame (w other : World) (p : ℕ) (got came : Key → ℕ) : Type 0 where
  pub words : (n : ℕ) → n < length (messages w.plan) → (message w.plan n).sender ≡ p
      → local_word w got p (message w.plan n) ≡ local_word other came p (message w.plan n)
  pub outputs : (s o : ℕ) → local_output w got p s o ≡ local_output other came p s o

abbrev pub WordsAreOwn : Type 0
WordsAreOwn =
    (w : World) (p : ℕ) (inputs : InputLists) (tapes : List (List ℕ)) (got came : Key → ℕ)
    → HasOwn w p inputs tapes → SameCame p got came
    → ComputesSame w (record w { inputs = inputs; tapes = tapes }) p got came
