-- The numbers of slots, by formulas that need no list.
use Rattle.std.specs.Prelude.{◌≡◌, ℕ, ◌+◌, ◌*◌, ◌<◌, if◌then◌else◌, length}
use Rattle.list_laws.specs.Lists.{total}
use Rattle.session_slots.specs.Sessions.{Session, Slot, owners, readers, is_prepared, session_slot, session_slots}
use Rattle.session_slots.specs.Sessions.Slot.{Input, At_gate, Output, Mask, Mask_product, Masked, Kept}
use Rattle.session_slots.specs.SoundSessions.{Inside}
use Rattle.session_slots.specs.declared.side.Side.TheVariants.{First, Second}

-- how many of the first t gates are prepared products
abbrev pub prepared_before : Session → ℕ → ℕ
prepared_before s t = total t (λ u. if is_prepared s u then 1 else 0)

-- the number of the first input slot, behind three slots for each prepared product
abbrev pub first_input : Session → ℕ
first_input s = 3 * prepared_before s (length s.gates)

-- the number of the first slot of the masks of gate t's wires: in turn with the products of masks, or ahead of them
abbrev pub first_of_masks : Session → ℕ → ℕ
first_of_masks s t = if s.ahead then 2 * prepared_before s t else 3 * prepared_before s t

-- the number of the slot of the product of these masks
abbrev pub mask_product_number : Session → ℕ → ℕ
mask_product_number s t =
    if s.ahead then 2 * prepared_before s (length s.gates) + prepared_before s t else 3 * prepared_before s t + 2

-- the number of the first slot of gate t, behind the inputs, the gates before it and what is opened for those
abbrev pub first_of_gate : Session → ℕ → ℕ
first_of_gate s t = first_input s + length (owners s) + t + 2 * prepared_before s t

-- the number of a slot
abbrev pub session_slot_number : Session → Slot → ℕ
session_slot_number s (Mask t First) = first_of_masks s t
session_slot_number s (Mask t Second) = first_of_masks s t + 1
session_slot_number s (Mask_product t) = mask_product_number s t
session_slot_number s (Input v) = first_input s + v
session_slot_number s (Masked t First) = first_of_gate s t
session_slot_number s (Masked t Second) = first_of_gate s t + 1
session_slot_number s (At_gate t) = first_of_gate s t + (if is_prepared s t then 2 else 0)
session_slot_number s (Output o) = first_of_gate s (length s.gates) + o
session_slot_number s (Kept j) = first_of_gate s (length s.gates) + length (readers s) + j

-- each slot stands at its number, and each number below the count of slots is one slot's
pub record SlotsAreNumbered (s : Session) : Type 0 where
  pub inside : (k : ℕ) → k < session_slots s → Inside s (session_slot s k)
  pub number : (k : ℕ) → k < session_slots s → session_slot_number s (session_slot s k) ≡ k
  pub there : (kind : Slot) → Inside s kind
      → (session_slot_number s kind < session_slots s) × (session_slot s (session_slot_number s kind) ≡ kind)
  pub count : session_slots s ≡ first_of_gate s (length s.gates) + length (readers s) + length s.kept
