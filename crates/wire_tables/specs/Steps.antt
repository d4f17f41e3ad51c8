-- The rows of a table on the way through the slots.
use Rattle.std.specs.Prelude.{◌≡◌, ℕ, ◌<◌, ◌^◌, nat_lt, if◌then◌else◌, All, List, [], ◌∷◌, length, replicate, slice_index_or, Option, Some, None}
use Rattle.std.specs.Global.{Vec}
use Rattle.list_laws.specs.Lists.{some_below}
use Rattle.session_slots.specs.Sessions.{row_names}
use Rattle.session_slots.specs.KeptWires.{sets_in, slot_sets}
use Rattle.plan_model.specs.Plans.{Plan, session, slot, slots}
use Rattle.plan_model.specs.InputWords.{session_words}
use Rattle.share_world.specs.Worlds.{World}
use Rattle.wire_tables.specs.Places.{ArePlaces}
use Rattle.wire_tables.specs.WireTables.{AreCarried, input_list, summand_rows}
use Rattle.wire_tables.specs.declared.summands.BeforeSlot.{BeforeSlot}

-- a word of the ring for each summand
pub record IsRow (plan : Plan) (row : List ℕ) : Type 0 where
  pub long : length row ≡ length plan.groups
  pub small : All (λ word. word < 2 ^ plan.bits) row

-- the row of this name, after all slots
abbrev pub last_row : World → ℕ → ℕ → List ℕ
last_row w s name = slice_index_or (summand_rows w s) name []

-- and before slot k: whole once an earlier slot sets it, and till then zeros of a wire, and no words of a mask
abbrev pub row_before : World → ℕ → ℕ → ℕ → List ℕ
row_before w s k name =
    if some_below k (λ j. slot_sets (session w.plan s) j name) then last_row w s name
    else if nat_lt name (session w.plan s).wires then replicate (length w.plan.groups) 0 else []

-- each name has its row before slot k of session s
pub record AreRows (w : World) (s k : ℕ) (rows : List (Vec ℕ)) : Type 0 where
  pub names : length rows ≡ row_names (session w.plan s)
  pub are : (name : ℕ) → name < row_names (session w.plan s)
      → slice_index_or (session_words rows) name [] ≡ row_before w s k name

-- a slot of a session of the world, and what is there before it
pub record IsBeforeSlot (w : World) (before : BeforeSlot) : Type 0 where
  pub in_session : before.session < length w.plan.sessions
  pub in_slot : before.slot < slots w.plan before.session
  pub given : before.given.now ≡ input_list w before.session
  pub carried : AreCarried w before.session before.carried.now
  pub places : ArePlaces w.plan before.session before.slot before.places.now
  pub rows : AreRows w before.session before.slot before.rows.now

-- slot k sets the row of this name to these words
pub record SetsRow (w : World) (s k name : ℕ) (words : List ℕ) : Type 0 where
  pub sets : sets_in (session w.plan s) (slot w.plan s k) ≡ name ∷ []
  pub named : name < row_names (session w.plan s)
  pub are : words ≡ last_row w s name

-- so where there is a name, and without one it sets none
abbrev pub Sets : World → ℕ → ℕ → Option ℕ → List ℕ → Type 0
Sets w s k None words = sets_in (session w.plan s) (slot w.plan s k) ≡ []
Sets w s k (Some name) words = SetsRow w s k name words
