-- What a slot reads and sets before it takes anything, and what it completes after that.
use Rattle.std.specs.Prelude.{ℕ, nat_eq, Bool, true, false, not, ◌&&◌, List, [], ◌∷◌}
use Rattle.std.specs.List.{list_any}
use Rattle.list_laws.specs.Lists.{only_if}
use Rattle.circuit_model.specs.Circuits.{is_product}
use Rattle.session_slots.specs.Sessions.{Session, Slot, gate, is_prepared, mask_wire, product_wire, session_slot}
use Rattle.session_slots.specs.Sessions.Slot.{Input, At_gate, Output, Mask, Mask_product, Masked, Kept}
use Rattle.session_slots.specs.KeptWires.{reads_in, sets_in}

-- the wires of a slot that are complete only when what others post there was taken
abbrev pub completes : Session → Slot → List ℕ
completes s (Input v) = v ∷ []
completes s (At_gate t) = only_if (is_product (gate s t).operation) ((gate s t).output ∷ [])
completes s (Output o) = []
completes s (Mask t side) = mask_wire s t side ∷ []
completes s (Mask_product t) = product_wire s t ∷ []
completes s (Masked t side) = []
completes s (Kept j) = []

-- slot k completes wire w
abbrev pub slot_completes : Session → ℕ → ℕ → Bool
slot_completes s k w = list_any (nat_eq w) (completes s (session_slot s k))

-- a slot joins words only when what others post was taken: it is of a prepared product
abbrev pub is_join : Session → Slot → Bool
is_join s (At_gate t) = is_prepared s t
is_join s _ = false

-- the wires that a slot reads before it takes anything
abbrev pub reads_early : Session → Slot → List ℕ
reads_early s z = only_if (not (is_join s z)) (reads_in s z)

-- a slot may set a wire before it takes anything
abbrev pub sets_early : Session → Slot → Bool
sets_early s z = not (is_join s z) && list_any (λ w. true) (sets_in s z)
