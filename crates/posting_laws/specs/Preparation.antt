-- That a session is prepared before any input: its masks and the products of masks stand before its inputs, and no
-- input changes their words.
use Rattle.std.specs.Prelude.{◌≡◌, ℕ, ◌<◌, Bool, true, false, nat_lt}
use Rattle.session_slots.specs.Sessions.{Session, Slot, session_slot, session_slots}
use Rattle.session_slots.specs.Sessions.Slot.{Mask, Mask_product}
use Rattle.session_slots.specs.SlotNumbers.{first_input}
use Rattle.plan_model.specs.InputWords.{InputLists}
use Rattle.plan_model.specs.Plans.{Plan, session}
use Rattle.plan_model.specs.declared.key.Key.{Key}
use Rattle.share_world.specs.Locals.{local_word}
use Rattle.share_world.specs.Worlds.{World, word}

-- a slot of the preparation is of a mask, or of the product of both masks of a product
abbrev pub is_preparation : Slot → Bool
is_preparation (Mask t side) = true
is_preparation (Mask_product t) = true
is_preparation _ = false

-- whether masks come ahead or in turn with their products, the slots before the inputs are those of the preparation
abbrev pub PreparationIsFirst : Type 0
PreparationIsFirst =
    (s : Session) (k : ℕ) → k < session_slots s → is_preparation (session_slot s k) ≡ nat_lt k (first_input s)

-- a message is of the preparation of its session
abbrev pub IsPrepared : Plan → Key → Type 0
IsPrepared plan key = key.slot < first_input (session plan key.session)

-- whatever the inputs of all sessions are, its word is the same
abbrev pub PreparedWordsStay : Type 0
PreparedWordsStay =
    (w : World) (inputs : InputLists) (key : Key) → IsPrepared w.plan key
    → word (record w { inputs = inputs }) key ≡ word w key

-- in the preparation of session s the same words came
abbrev pub SameCameEarly : Plan → ℕ → (Key → ℕ) → (Key → ℕ) → Type 0
SameCameEarly plan s got came = (key : Key) → key.session ≡ s → IsPrepared plan key → got key ≡ came key

-- so each party has its word from its tape and from what came in this preparation, whatever the inputs are, and
-- whatever came in other slots and sessions
abbrev pub PreparedAlone : Type 0
PreparedAlone =
    (w : World) (inputs : InputLists) (p : ℕ) (got came : Key → ℕ) (key : Key) → IsPrepared w.plan key
    → SameCameEarly w.plan key.session got came
    → local_word (record w { inputs = inputs }) got p key ≡ local_word w came p key
