-- Tables of a session's wires: what is given on them, their values, and their summands.
use Rattle.std.specs.Prelude.{◌≡◌, ℕ, ◌<◌, if◌then◌else◌, List, [], ◌∷◌, ◌++◌, length, slice_index, slice_index_or}
use Rattle.std.specs.Global.{Vec}
use Rattle.list_laws.specs.Lists.{joined, listed}
use Rattle.session_slots.specs.Sessions.{owners, source, is_prepared}
use Rattle.session_slots.specs.declared.source.Source.TheVariants.{Earlier}
use Rattle.session_slots.specs.declared.side.Side.{Side}
use Rattle.session_slots.specs.declared.side.Side.TheVariants.{First, Second}
use Rattle.plan_model.specs.Plans.{Plan, session}
use Rattle.plan_model.specs.InputWords.{session_words, InputLists}
use Rattle.share_world.specs.Worlds.{World, carried_wire, end_summands, input_of, mask, mask_product, plain}
use Rattle.wire_tables.specs.declared.world_data.WorldData.{WorldData}

-- the world of a plan, the inputs of all parties, and a tape for each party
abbrev pub world_given : Plan → InputLists → List (Vec ℕ) → World
world_given plan inputs tapes =
    record { plan = plan; inputs = inputs; tapes = session_words tapes }

-- the world of what a run goes by
abbrev pub world_of : WorldData → World
world_of world = world_given world.plan.now world.inputs.now world.tapes.now

-- the word that is given on each input wire of session s; 0 on one that is carried
abbrev pub input_list : World → ℕ → List ℕ
input_list w s = listed (length (owners (session w.plan s))) (input_of w s)

-- the value of each wire, in the clear
abbrev pub value_list : World → ℕ → List ℕ
value_list w s = listed (session w.plan s).wires (plain w s)

-- so of each session
abbrev pub value_lists : World → List (List ℕ)
value_lists w = listed (length w.plan.sessions) (value_list w)

-- the summands of wire v, after all gates
abbrev pub summand_row : World → ℕ → ℕ → List ℕ
summand_row w s v = listed (length w.plan.groups) (end_summands w s v)

-- the summands of the mask of the wire that gate t reads on this side
abbrev pub mask_row : World → ℕ → ℕ → Side → List ℕ
mask_row w s t side = listed (length w.plan.groups) (mask w s t side)

-- the summands of the product of both masks
abbrev pub product_row : World → ℕ → ℕ → List ℕ
product_row w s t = listed (length w.plan.groups) (mask_product w s t)

-- the three rows of gate t behind those of the wires, which are whole where its product is prepared
abbrev pub prepared_rows : World → ℕ → ℕ → List (List ℕ)
prepared_rows w s t =
    if is_prepared (session w.plan s) t
    then mask_row w s t First ∷ mask_row w s t Second ∷ product_row w s t ∷ []
    else [] ∷ [] ∷ [] ∷ []

-- the summands of each wire, and behind them those of the masks: a row for each name of one
abbrev pub summand_rows : World → ℕ → List (List ℕ)
summand_rows w s =
    listed (session w.plan s).wires (summand_row w s)
    ++ (if (session w.plan s).prepared then joined (length (session w.plan s).gates) (prepared_rows w s) else [])

-- ---- tables of several sessions

-- what stands there for wire v of session s: a value, or a row of summands
abbrev pub value_at : List (List ℕ) → ℕ → ℕ → ℕ
value_at lists s v = slice_index (slice_index_or lists s []) v

abbrev pub row_at : List (List (List ℕ)) → ℕ → ℕ → List ℕ
row_at rows s v = slice_index_or (slice_index_or rows s []) v []

-- by session and input wire, the summands of each wire that is carried from one of the first n sessions
pub record AreCarried (w : World) (n : ℕ) (rows : List (List (List ℕ))) : Type 0 where
  pub sessions : length rows ≡ length w.plan.sessions
  pub are : (s v r c i : ℕ) → source (session w.plan s) v ≡ Earlier r c i → r < n
      → row_at rows s v ≡ summand_row w r (carried_wire w.plan r c i)
