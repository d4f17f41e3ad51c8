-- Sessions within the limits, and the kinds of their slots.
use Rattle.std.specs.Prelude.{◌≡◌, ℕ, ◌<◌, ◌≤◌, ◌*◌, ◌^◌, true, All, List, length, slice_index}
use Rattle.session_slots.specs.Sessions.{owners, readers, source, Session, Slot, gate, is_prepared}
use Rattle.session_slots.specs.declared.source.Source.TheVariants.{Given}
use Rattle.session_slots.specs.declared.values.KeptWire.{KeptWire}
use Rattle.session_slots.specs.declared.values.OutputValue.{OutputValue}
use Rattle.session_slots.specs.KeptWires.{IsInOrder}
use Rattle.session_slots.specs.Sessions.Slot.{Input, At_gate, Output, Mask, Mask_product, Masked, Kept}
use Rattle.session_slots.specs.declared.slot_content.SlotContent.{SlotContent}
use Rattle.session_slots.specs.declared.slot_content.SlotContent.TheVariants.{Row, Excess, Product}
use Rattle.session_slots.specs.declared.slot_kind.SlotKind.{SlotKind}
use Rattle.session_slots.specs.declared.slot_kind.SlotKind.TheVariants.{Input as InputKind, Gate as GateKind, Output as OutputKind, Mask as MaskKind, MaskProduct as MaskProductKind, Masked as MaskedKind, Kept as KeptKind}
use Rattle.job_limits.specs.declared.limits.TheConstants.{MOST_GATES, MOST_SESSIONS, MOST_WIRES}

-- these wires can be kept of a session: each is one of its output wires, and they are no more than all sessions have
-- wires
pub record AreKept (s : Session) (kept : List KeptWire) : Type 0 where
  pub outputs : All (λ (wire : KeptWire). wire.output < length (readers s)) kept
  pub few : length kept ≤ MOST_SESSIONS * MOST_WIRES

-- each member of these groups is one of their parties
abbrev pub AreWithin : List OutputValue → Type 0
AreWithin outputs = All (λ (value : OutputValue). value.readers.mask < 2 ^ value.readers.parties) outputs

-- the wires of each gate are wires, each is set once and read only after that, and all is within the limits
pub record IsWired (s : Session) : Type 0 where
  pub wires : s.wires ≤ MOST_WIRES
  pub gates : length s.gates ≤ MOST_GATES
  pub input_wires : length (owners s) ≤ s.wires
  pub output_wires : length (readers s) ≤ s.wires
  pub first : (t : ℕ) → t < length s.gates → (gate s t).first < s.wires
  pub second : (t : ℕ) → t < length s.gates → (gate s t).second < s.wires
  pub output : (t : ℕ) → t < length s.gates → (gate s t).output < s.wires
  pub kept : AreKept s s.kept
  pub order : IsInOrder s

-- its gates and wires are so, and those who give or read wires are parties
pub record IsSoundSession (parties : ℕ) (s : Session) : Type 0 where
  pub wired : IsWired s
  pub owned : (v p : ℕ) → v < length (owners s) → source s v ≡ Given p → p < parties
  pub read : (o : ℕ) → o < length (readers s) → slice_index (readers s) o < 2 ^ parties

-- the slot of the definitions
abbrev pub slot_of_kind : SlotKind → Slot
slot_of_kind (InputKind v) = Input v
slot_of_kind (GateKind t) = At_gate t
slot_of_kind (OutputKind o) = Output o
slot_of_kind (MaskKind t side) = Mask t side
slot_of_kind (MaskProductKind t) = Mask_product t
slot_of_kind (MaskedKind t side) = Masked t side
slot_of_kind (KeptKind j) = Kept j

-- the wire, gate, output or place that a slot names is there, and the product is prepared where the slot is of one
abbrev pub Inside : Session → Slot → Type 0
Inside s (Input v) = v < length (owners s)
Inside s (At_gate t) = t < length s.gates
Inside s (Output o) = o < length (readers s)
Inside s (Mask t side) = (t < length s.gates) × (is_prepared s t ≡ true)
Inside s (Mask_product t) = (t < length s.gates) × (is_prepared s t ≡ true)
Inside s (Masked t side) = (t < length s.gates) × (is_prepared s t ≡ true)
Inside s (Kept j) = j < length s.kept

-- each row of which a slot's messages are made is one of `names`
abbrev pub AreNamed : (names : ℕ) → SlotContent → Type 0
AreNamed names (Row v) = v < names
AreNamed names (Excess wire mask side) = (wire < names) × (mask < names)
AreNamed names (Product g) = (g.first < names) × (g.second < names) × (g.output < names)
