-- Wires of slots that have rows.
use Rattle.std.proofs.Common.{◌≡◌, ℕ, ◌+◌, ◌<◌, true, length, refl, arith}
use Rattle.session_slots.specs.Sessions.{Session, Slot, gate, operand, owners, readers, output_wire, product_in, row_names, has_product}
use Rattle.session_slots.specs.Sessions.Slot.{Input, At_gate, Output, Mask, Mask_product, Masked, Kept}
use Rattle.session_slots.specs.declared.side.Side.{Side}
use Rattle.session_slots.specs.declared.side.Side.TheVariants.{First, Second}
use Rattle.session_slots.specs.SoundSessions.{Inside, IsWired}
use Rattle.session_slots.proofs.RowNames.{few_slots, mask_within, product_named, wires_named}
use Rattle.session_slots.proofs.SessionSlots.{slots_are_numbered}
use Rattle.plan_model.specs.Plans.{Plan, session, slot, slots}
use Rattle.plan_model.specs.Sound.{IsSound}
use Rattle.program_model.specs.Proper.{IsSlot, Multiplies}
use Rattle.program_laws.specs.WordsRead.{gate_at}
use Rattle.party_desk.specs.Memories.{GateWithin}

-- a slot in which a product may be has one
pub product_here : (z : Slot) → Multiplies z → has_product z ≡ true
product_here (At_gate t) h = refl
product_here (Mask_product t) h = refl
product_here (Input v) h = absurd h
product_here (Output o) h = absurd h
product_here (Mask t side) h = absurd h
product_here (Masked t side) h = absurd h
product_here (Kept place) h = absurd h

module _ (plan : Plan) (sound : IsSound plan) (s : ℕ) (ls : s < length plan.sessions) where
  abbrev x : Session
  x = session plan s

  wired : IsWired x
  wired = (sound.sessions s ls).wired

  pub wire_named : (v : ℕ) → v < x.wires → v < row_names x
  wire_named v l = let all = wires_named x in omega (arith, l, all)

  pub input_named : (v : ℕ) → v < length (owners x) → v < row_names x
  input_named v l = wire_named v (let all = wired.input_wires in omega (arith, l, all))

  pub output_named : (o : ℕ) → o < length (readers x) → output_wire x o < row_names x
  output_named o l = wire_named (output_wire x o) (let all = wired.output_wires in omega (arith, l, all))

  pub operand_named : (t : ℕ) (side : Side) → t < length x.gates → operand (gate x t) side < row_names x
  operand_named t First l = wire_named _ (wired.first t l)
  operand_named t Second l = wire_named _ (wired.second t l)

  pub gate_named : (t : ℕ) → t < length x.gates → (gate x t).output < row_names x
  gate_named t l = wire_named _ (wired.output t l)

  -- of a gate, or of a product of masks
  pub product_within_rows : (z : Slot) → Inside x z → Multiplies z → GateWithin plan s (product_in x z)
  product_within_rows (At_gate t) l h = record { first = operand_named t First l; second = operand_named t Second l; output = gate_named t l }
  product_within_rows (Mask_product t) (l, e) h = record { first = mask_within x t First l e; second = mask_within x t Second l e; output = product_named x t l e }
  product_within_rows (Input v) l h = absurd h
  product_within_rows (Output o) l h = absurd h
  product_within_rows (Mask t side) l h = absurd h
  product_within_rows (Masked t side) l h = absurd h
  product_within_rows (Kept place) l h = absurd h

  pub slot_within_rows : (k : ℕ) → IsSlot plan s k Multiplies → GateWithin plan s (gate_at plan s k)
  slot_within_rows k named = product_within_rows (slot plan s k) ((slots_are_numbered x).inside k named.slot) named.kind

  -- slots are few
  pub slot_few : (k : ℕ) → k < slots plan s → k + 1 < 4294967296
  slot_few k less = let few = few_slots x wired in omega (arith, few, less)
