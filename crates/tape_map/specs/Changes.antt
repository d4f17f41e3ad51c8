-- The tables of a session by which its tapes are changed.
use Rattle.std.specs.Prelude.{◌≡◌, ℕ, ◌+◌, ◌^◌, ◌<◌, if◌then◌else◌, List, [], ◌∷◌, ◌++◌, length}
use Rattle.std.specs.Prelude.{slice_index, slice_index_or}
use Rattle.list_laws.specs.Lists.{joined, listed, only_if}
use Rattle.mpc_ring.specs.Differences.{difference}
use Rattle.secret_sharing.specs.Schemes.{own_product}
use Rattle.party_set.specs.Parties.{has_party}
use Rattle.session_slots.specs.declared.slot_content.SlotContent.{SlotContent}
use Rattle.session_slots.specs.declared.slot_content.SlotContent.TheVariants.{Row, Excess, Product}
use Rattle.session_slots.specs.Sessions.{Session, Slot, content, gate, row_names}
use Rattle.session_slots.specs.SoundSessions.{Inside}
use Rattle.plan_model.specs.Plans.{Plan, scheme, session, slot, slots, words_in, place}
use Rattle.plan_model.specs.InputWords.{session_words}
use Rattle.wire_tables.specs.Steps.{IsRow}
use Rattle.tape_map.specs.TapeMaps.{hidden_word, raised}
use Rattle.tape_map.specs.declared.change.Change.{Change}

-- ---- what a change has, by the names of rows

-- by how much the three rows of gate t grow behind those of the wires: its masks as the wires that it reads, and the
-- product of these, which no product reads, not at all
abbrev pub mask_growths : Session → List ℕ → ℕ → List ℕ
mask_growths x more t = slice_index more (gate x t).first ∷ slice_index more (gate x t).second ∷ 0 ∷ []

-- by how much each row grows, where the wires grow by `more`
abbrev pub row_growths : Session → List ℕ → List ℕ
row_growths x more = more ++ only_if x.prepared (joined (length x.gates) (mask_growths x more))

-- a row, where summand g grows by d
abbrev pub grown_row : Plan → ℕ → ℕ → List ℕ → List ℕ
grown_row plan g d row = listed (length row) (raised (2 ^ plan.bits) g d (slice_index row))

-- each row, where summand g grows by as much as the row is to
abbrev pub grown_rows : Plan → ℕ → ℕ → List ℕ → List (List ℕ) → List (List ℕ)
grown_rows plan s g more rows =
    listed (row_names (session plan s)) (λ name. grown_row plan g (slice_index more name) (slice_index_or rows name []))

-- the change of session s at this summand, by how much its rows grow and by these rows
pub record IsTable (plan : Plan) (s g : ℕ) (more : List ℕ) (table : List (List ℕ)) (c : Change) : Type 0 where
  pub at : c.session ≡ s
  pub hidden_summand : c.hidden ≡ g
  pub growths : c.growths.items ≡ more
  pub rows : c.rows ≡ table
  pub moved : session_words c.moved.items ≡ grown_rows plan s g more table

-- ---- tables of the right size

-- so many numbers of the ring
pub record AreNumbers (plan : Plan) (count : ℕ) (numbers : List ℕ) : Type 0 where
  pub long : length numbers ≡ count
  pub below : (i : ℕ) → slice_index numbers i < 2 ^ plan.bits

-- so of each session, one for each wire
pub record AreWireNumbers (plan : Plan) (lists : List (List ℕ)) : Type 0 where
  pub sessions : length lists ≡ length plan.sessions
  pub numbers : (s : ℕ) → s < length plan.sessions → AreNumbers plan (session plan s).wires (slice_index_or lists s [])

-- a product reads whole rows
abbrev pub ReadsWhole : Plan → List (List ℕ) → SlotContent → Type 0
ReadsWhole plan rows (Product g) =
    IsRow plan (slice_index_or rows g.first []) × IsRow plan (slice_index_or rows g.second [])
ReadsWhole plan rows _ = Unit

-- a row for each name, whole if it has words, and where the product of a slot reads it
pub record AreNamedRows (plan : Plan) (s : ℕ) (rows : List (List ℕ)) : Type 0 where
  pub names : length rows ≡ row_names (session plan s)
  pub whole : (name : ℕ) → 0 < length (slice_index_or rows name []) → IsRow plan (slice_index_or rows name [])
  pub read : (kind : Slot) → Inside (session plan s) kind → ReadsWhole plan rows (content (session plan s) kind)

-- the tables are of a session of the plan
pub record Fits (plan : Plan) (c : Change) : Type 0 where
  pub there : c.session < length plan.sessions
  pub growths : AreNumbers plan (row_names (session plan c.session)) c.growths.items
  pub rows : AreNamedRows plan c.session c.rows
  pub moved : session_words c.moved.items ≡ grown_rows plan c.session c.hidden c.growths.items c.rows

-- ---- what is dealt

-- by how much party p's part of a product grows, from that of the rows x and y to that of x' and y'
abbrev pub product_growth : Plan → ℕ → List ℕ → List ℕ → List ℕ → List ℕ → ℕ
product_growth plan p x y x' y' =
    difference (2 ^ plan.bits) (own_product (scheme plan) p (slice_index x') (slice_index y'))
    (own_product (scheme plan) p (slice_index x) (slice_index y))

-- by how much the hidden word grows of those that p draws in a slot with this content, where p is no member: as the
-- row does, or as its part of the product; no word is drawn of what is opened
abbrev pub growth_in : Plan → Change → ℕ → SlotContent → ℕ
growth_in plan c p (Row name) = slice_index c.growths.items name
growth_in plan c p (Excess wire mask side) = 0
growth_in plan c p (Product g) =
    let moved = session_words c.moved.items in
    product_growth plan p (slice_index_or c.rows g.first []) (slice_index_or c.rows g.second [])
    (slice_index_or moved g.first []) (slice_index_or moved g.second [])

-- a member's words stay
abbrev pub growth_by : Plan → ℕ → Change → ℕ → Slot → ℕ
growth_by plan group c p kind =
    if has_party group p then 0 else growth_in plan c p (content (session plan c.session) kind)

-- the words that party p draws in slot k, of which the hidden one grows
abbrev pub grown_words : Plan → ℕ → Change → List ℕ → ℕ → ℕ → List ℕ
grown_words plan group c tape p k =
    let kind = slot plan c.session k in
    listed (words_in plan c.session p kind)
    (raised (2 ^ plan.bits) (hidden_word plan group p kind) (growth_by plan group c p kind)
    (λ i. slice_index tape (place plan p c.session k + i)))

-- and all words that it draws in the session
abbrev pub grown_piece : Plan → ℕ → Change → List ℕ → ℕ → List ℕ
grown_piece plan group c tape p = joined (slots plan c.session) (grown_words plan group c tape p)
