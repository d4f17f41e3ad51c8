-- Which wires are kept at which slots, and a row for each wire: those that are kept together have rows of their own.
-- The masks of a prepared product, and their product, are wires behind those of the circuit.
use Rattle.std.specs.Prelude.{◌≡◌, ◌≢◌, ℕ, ◌+◌, ◌<◌, nat_eq, nat_le, Bool, true, false, ◌&&◌, if◌then◌else◌, List, [], ◌∷◌, length, slice_index, All}
use Rattle.std.specs.List.{list_any}
use Rattle.list_laws.specs.Lists.{greatest, total, some_below}
use Rattle.circuit_model.specs.Netlists.{read_by}
use Rattle.session_slots.specs.Sessions.{Session, Slot, gate, is_prepared, operand, mask_wire, product_wire, row_names, kept_wire, output_wire, session_slot, session_slots}
use Rattle.session_slots.specs.declared.side.Side.TheVariants.{First, Second}
use Rattle.session_slots.specs.Sessions.Slot.{Input, At_gate, Output, Mask, Mask_product, Masked, Kept}

-- the wires that a slot sets
abbrev pub sets_in : Session → Slot → List ℕ
sets_in s (Input v) = v ∷ []
sets_in s (At_gate t) = (gate s t).output ∷ []
sets_in s (Output o) = []
sets_in s (Mask t side) = mask_wire s t side ∷ []
sets_in s (Mask_product t) = product_wire s t ∷ []
sets_in s (Masked t side) = []
sets_in s (Kept j) = []

-- the wires that a slot reads; a prepared product joins its masks and their product
abbrev pub reads_in : Session → Slot → List ℕ
reads_in s (Input v) = []
reads_in s (At_gate t) =
    if is_prepared s t then mask_wire s t First ∷ mask_wire s t Second ∷ product_wire s t ∷ [] else read_by (gate s t)
reads_in s (Output o) = output_wire s o ∷ []
reads_in s (Mask t side) = []
reads_in s (Mask_product t) = mask_wire s t First ∷ mask_wire s t Second ∷ []
reads_in s (Masked t side) = operand (gate s t) side ∷ mask_wire s t side ∷ []
reads_in s (Kept j) = kept_wire s j ∷ []

-- slot k sets wire w
abbrev pub slot_sets : Session → ℕ → ℕ → Bool
slot_sets s k w = list_any (nat_eq w) (sets_in s (session_slot s k))

-- slot k reads wire w
abbrev pub slot_reads : Session → ℕ → ℕ → Bool
slot_reads s k w = list_any (nat_eq w) (reads_in s (session_slot s k))

-- each wire is set once, and read only after that
pub record IsInOrder (s : Session) : Type 0 where
  pub once : (j k w : ℕ) → j < k → k < session_slots s → slot_sets s j w ≡ true → slot_sets s k w ≡ false
  pub before : (k w : ℕ) → k < session_slots s → slot_reads s k w ≡ true → (j : ℕ) × (j < k) × (slot_sets s j w ≡ true)

-- ---- wires that are kept

-- wire w is kept before slot k: an earlier slot sets it, and slot k or a later one reads it
unfoldable pub is_kept : Session → ℕ → ℕ → Bool
is_kept s k w =
    some_below k (λ j. slot_sets s j w) && some_below (session_slots s) (λ m. nat_le k m && slot_reads s m w)

-- how many wires are kept before slot k
unfoldable pub kept : Session → ℕ → ℕ
kept s k = total (row_names s) (λ w. if is_kept s k w then 1 else 0)

-- how many wires are kept where most are
unfoldable pub live : Session → ℕ
live s = greatest (session_slots s) (kept s)

-- ---- rows

-- some slot reads wire w
abbrev pub is_read : Session → ℕ → Bool
is_read s w = some_below (session_slots s) (λ m. slot_reads s m w)

-- a row for each wire: the first for those that no slot reads, and else another than each wire has that an earlier slot
-- sets and a later one reads
pub record IsRowTable (s : Session) (rows : List ℕ) : Type 0 where
  pub wires : length rows ≡ row_names s
  pub below : All (λ row. row < live s + 1) rows
  pub unread : (w : ℕ) → is_read s w ≡ false → slice_index rows w ≡ 0
  pub read : (w : ℕ) → is_read s w ≡ true → 0 < slice_index rows w
  pub apart : (j k m v w : ℕ) → j < k → k < m → m < session_slots s → slot_sets s j v ≡ true → slot_reads s m v ≡ true
      → slot_sets s k w ≡ true → slice_index rows v ≢ slice_index rows w

-- two wires that are kept before the same slot have different rows
abbrev pub KeptApart : Type 0
KeptApart =
    (s : Session) (rows : List ℕ) (k v w : ℕ) → IsRowTable s rows → is_kept s k v ≡ true → is_kept s k w ≡ true
    → v ≢ w → slice_index rows v ≢ slice_index rows w
