-- Sessions: a circuit, with those who give its inputs and those who read its outputs; its wires and its slots.
use Rattle.std.specs.Prelude.{ℕ, ◌+◌, ◌-◌, ◌*◌, nat_eq, Bool, true, false, ◌&&◌, not, if◌then◌else◌, List, [], ◌∷◌, ◌++◌, replicate, length, take, slice_index_or}
use Rattle.list_laws.specs.Lists.{joined, listed, only_if}
use Rattle.circuit_model.specs.declared.gate.Gate.{Gate}
use Rattle.circuit_model.specs.declared.gate.Operation.TheVariants.{Add, Mul}
use Rattle.circuit_model.specs.Circuits.{is_product}
use Rattle.session_slots.specs.declared.source.Source.{Source}
use Rattle.session_slots.specs.declared.source.Source.TheVariants.{Given, Earlier}
use Rattle.session_slots.specs.declared.values.Owner.{Owner}
use Rattle.session_slots.specs.declared.values.Owner.TheVariants.{Party, Carried}
use Rattle.session_slots.specs.declared.values.InputValue.{InputValue}
use Rattle.session_slots.specs.declared.values.OutputValue.{OutputValue}
use Rattle.session_slots.specs.declared.values.KeptWire.{KeptWire}
use Rattle.session_slots.specs.declared.side.Side.{Side}
use Rattle.session_slots.specs.declared.side.Side.TheVariants.{First, Second}
use Rattle.session_slots.specs.declared.slot_content.SlotContent.{SlotContent}
use Rattle.session_slots.specs.declared.slot_content.SlotContent.TheVariants.{Row, Excess, Product}

-- a circuit, with those who give its inputs and those who read its outputs, whether its products are prepared, whether
-- the masks of all of these come ahead of the products of masks, and which of its output wires later sessions carry, in
-- the order in which they are kept
pub record Session : Type 0 where
  pub gates : List Gate
  pub wires : ℕ
  pub inputs : List InputValue
  pub outputs : List OutputValue
  pub prepared : Bool
  pub ahead : Bool
  pub kept : List KeptWire

-- what stands for a session that isn't there
abbrev pub no_session : Session
no_session = record { gates = []; wires = 0; inputs = []; outputs = []; prepared = false; ahead = false; kept = [] }

-- session s of a list
abbrev pub session_at : List Session → ℕ → Session
session_at sessions s = slice_index_or sessions s no_session

-- what stands for a gate that isn't there
abbrev pub no_gate : Gate
no_gate = record { operation = Add; first = 0; second = 0; output = 0; constant = 0 }

-- gate t of a session
abbrev pub gate : Session → ℕ → Gate
gate s t = slice_index_or s.gates t no_gate

-- gate t is a product that is prepared: what it needs of randomness is dealt before the inputs
abbrev pub is_prepared : Session → ℕ → Bool
is_prepared s t = s.prepared && is_product (gate s t).operation

-- gate t is a product that is dealt itself
abbrev pub is_direct : Session → ℕ → Bool
is_direct s t = not s.prepared && is_product (gate s t).operation

-- ---- wires

-- the source of wire i of an input value: a party gives it, or it carries a wire of an output value of an earlier
-- session
abbrev pub source_from : Owner → ℕ → Source
source_from (Party p) i = Given p
source_from (Carried r c) i = Earlier r c i

-- the source of each input wire
abbrev pub owners_of : List InputValue → List Source
owners_of [] = []
owners_of (v ∷ vs) = listed v.width (source_from v.owner) ++ owners_of vs

-- of a session
abbrev pub owners : Session → List Source
owners s = owners_of s.inputs

-- of input wire v
abbrev pub source : Session → ℕ → Source
source s v = slice_index_or (owners s) v (Given 0)

-- party p gives the wire
abbrev pub given_by : ℕ → Source → Bool
given_by p (Given q) = nat_eq q p
given_by p (Earlier r c i) = false

-- the wire is carried from an earlier session
abbrev pub is_carried : Source → Bool
is_carried (Given p) = false
is_carried (Earlier r c i) = true

-- the party that gives the wire; where none does, 0 stands for it
abbrev pub giver : Source → ℕ
giver (Given p) = p
giver (Earlier r c i) = 0

-- it is carried from session r
abbrev pub carries : ℕ → Source → Bool
carries r (Given p) = false
carries r (Earlier r' c i) = nat_eq r' r

-- the readers of each output wire, as a mask
abbrev pub readers_of : List OutputValue → List ℕ
readers_of [] = []
readers_of (v ∷ vs) = replicate v.width v.readers.mask ++ readers_of vs

-- of a session
abbrev pub readers : Session → List ℕ
readers s = readers_of s.outputs

-- the last wires are the output wires
abbrev pub output_wire : Session → ℕ → ℕ
output_wire s o = s.wires - length (readers s) + o

-- the first output wire of output value c, counted from the first of all
abbrev pub first_output : Session → ℕ → ℕ
first_output s c = length (readers_of (take c s.outputs))

-- the output wire of s that a source carries, counted in the same way
abbrev pub carried_output : Session → Source → ℕ
carried_output s (Given p) = 0
carried_output s (Earlier r c i) = first_output s c + i

-- the wire of s that a source carries
abbrev pub carried_wire : Session → Source → ℕ
carried_wire s from = output_wire s (carried_output s from)

-- what stands for a kept wire that isn't there
abbrev pub no_kept : KeptWire
no_kept = record { session = 0; wire = 0; output = 0 }

-- the wire that is kept at place j
abbrev pub kept_wire : Session → ℕ → ℕ
kept_wire s j = output_wire s (slice_index_or s.kept j no_kept).output

-- the wire that a gate reads first, or the one that it reads second
abbrev pub operand : Gate → Side → ℕ
operand g First = g.first
operand g Second = g.second

-- ---- rows: of each wire, and three more of each prepared product, named as wires behind those of the circuit

-- the mask of the wire that gate t reads on this side
abbrev pub mask_wire : Session → ℕ → Side → ℕ
mask_wire s t First = s.wires + 3 * t
mask_wire s t Second = s.wires + 3 * t + 1

-- the product of both masks
abbrev pub product_wire : Session → ℕ → ℕ
product_wire s t = s.wires + 3 * t + 2

-- how many names of rows there are
abbrev pub row_names : Session → ℕ
row_names s = if s.prepared then s.wires + 3 * length s.gates else s.wires

-- ---- slots

-- what a slot is of
pub data Slot : Type 0 where
  Input : (wire : ℕ) → Slot
  At_gate : (gate : ℕ) → Slot
  Output : (output : ℕ) → Slot
  -- of a prepared product: the masks of its wires, their product, and what is opened of each wire
  Mask : (gate : ℕ) → (side : Side) → Slot
  Mask_product : (gate : ℕ) → Slot
  Masked : (gate : ℕ) → (side : Side) → Slot
  -- of the wire that is kept at this place
  Kept : (place : ℕ) → Slot

-- of each prepared product the masks and their product
abbrev pub turns_of_masks : Session → List Slot
turns_of_masks s =
    joined (length s.gates) (λ t. only_if (is_prepared s t) (Mask t First ∷ Mask t Second ∷ Mask_product t ∷ []))

-- of each the masks alone
abbrev pub mask_slots : Session → List Slot
mask_slots s = joined (length s.gates) (λ t. only_if (is_prepared s t) (Mask t First ∷ Mask t Second ∷ []))

-- of each the product of its masks alone
abbrev pub mask_product_slots : Session → List Slot
mask_product_slots s = joined (length s.gates) (λ t. only_if (is_prepared s t) (Mask_product t ∷ []))

-- what stands before the inputs: for each prepared product its masks and their product or, where masks come ahead,
-- those of all, and then their products
abbrev pub prepared_slots : Session → List Slot
prepared_slots s = if s.ahead then mask_slots s ++ mask_product_slots s else turns_of_masks s

-- the gates, before a prepared product what is opened of its wires
abbrev pub gate_slots : Session → List Slot
gate_slots s =
    joined (length s.gates) (λ t. only_if (is_prepared s t) (Masked t First ∷ Masked t Second ∷ []) ++ (At_gate t ∷ []))

-- the slots of a session, in their order
unfoldable pub slot_list : Session → List Slot
slot_list s =
    prepared_slots s
    ++ (listed (length (owners s)) (λ v. Input v)
    ++ (gate_slots s
    ++ (listed (length (readers s)) (λ o. Output o)
    ++ listed (length s.kept) (λ j. Kept j))))

-- how many slots a session has
abbrev pub session_slots : Session → ℕ
session_slots s = length (slot_list s)

-- slot k of a session; past the last, an output that isn't there
abbrev pub session_slot : Session → ℕ → Slot
session_slot s k = slice_index_or (slot_list s) k (Output (length (readers s)))

-- a slot is of a gate
abbrev pub is_gate : Slot → Bool
is_gate (At_gate t) = true
is_gate _ = false

-- a slot is of a gate, or of the product of the masks of a gate's wires
abbrev pub has_product : Slot → Bool
has_product (At_gate t) = true
has_product (Mask_product t) = true
has_product _ = false

-- the product that is dealt in a slot: that of a gate, or of the masks of its wires
abbrev pub product_in : Session → Slot → Gate
product_in s (At_gate t) = gate s t
product_in s (Mask_product t) = record {
  operation = Mul;
  first = mask_wire s t First;
  second = mask_wire s t Second;
  output = product_wire s t;
  constant = 0;
}
product_in s _ = no_gate

-- of which rows the words of a slot's messages are made: a row is dealt, handed out, opened or kept; what a wire has
-- more than its mask is opened; and a product is dealt, part by part
abbrev pub content : Session → Slot → SlotContent
content s (Input v) = Row v
content s (At_gate t) = Product (gate s t)
content s (Output o) = Row (output_wire s o)
content s (Mask t side) = Row (mask_wire s t side)
content s (Mask_product t) = Product (product_in s (Mask_product t))
content s (Masked t side) = Excess (operand (gate s t) side) (mask_wire s t side) side
content s (Kept j) = Row (kept_wire s j)
