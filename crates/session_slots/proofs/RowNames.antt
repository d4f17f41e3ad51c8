-- How many names of rows and how many slots there are.
use Rattle.std.proofs.Common.{◌≡◌, ℕ, ◌+◌, ◌*◌, ◌<◌, ◌≤◌, true, false, length, arith}
use Rattle.std.proofs.lemmas.Bool.{cond-true, cond_both, cond-false, and_parts}
use Rattle.circuit_model.specs.Circuits.{is_product}
use Rattle.session_slots.specs.declared.side.Side.{Side}
use Rattle.session_slots.specs.declared.side.Side.TheVariants.{First, Second}
use Rattle.session_slots.specs.Sessions.{Session, Slot, content, gate, is_prepared, mask_wire, no_kept, operand, output_wire, product_wire, readers, row_names, session_slots}
use Rattle.session_slots.specs.Sessions.Slot.{Input, At_gate, Output, Mask, Mask_product, Masked, Kept}
use Rattle.session_slots.specs.SoundSessions.{AreNamed, Inside, IsWired}
use Rattle.session_slots.proofs.SessionSlots.{few_before, slot_count}

-- the wires of the circuit come before those of its prepared products
pub wires_named : (s : Session) → s.wires ≤ row_names s
wires_named s = cond_both s.prepared (s.wires + 3 * length s.gates) s.wires (λ n. s.wires ≤ n) (λ e. omega arith) (λ e. omega arith)

pub few_names : (s : Session) → row_names s ≤ s.wires + 3 * length s.gates
few_names s = cond_both s.prepared (s.wires + 3 * length s.gates) s.wires (λ n. n ≤ s.wires + 3 * length s.gates) (λ e. omega arith) (λ e. omega arith)

pub names_of : (s : Session) (t : ℕ) → is_prepared s t ≡ true → row_names s ≡ s.wires + 3 * length s.gates
names_of s t e = cond-true s.prepared (s.wires + 3 * length s.gates) s.wires (and_parts s.prepared (is_product (gate s t).operation) e).0

pub mask_within : (s : Session) (t : ℕ) (side : Side) → t < length s.gates → is_prepared s t ≡ true → mask_wire s t side < row_names s
mask_within s t First l e = (let all = names_of s t e in omega (arith, all, l))
mask_within s t Second l e = (let all = names_of s t e in omega (arith, all, l))

pub product_named : (s : Session) (t : ℕ) → t < length s.gates → is_prepared s t ≡ true → product_wire s t < row_names s
product_named s t l e = (let all = names_of s t e in omega (arith, all, l))

-- the rows of which a slot's messages are made have names
module _ (s : Session) (wired : IsWired s) where
  wire_named : (v : ℕ) → v < s.wires → v < row_names s
  wire_named v l = omega (arith, l, wires_named s)

  output_named : (o : ℕ) → o < length (readers s) → output_wire s o < row_names s
  output_named o l = wire_named (output_wire s o) (omega (arith, l, wired.output_wires))

  operand_named : (t : ℕ) (side : Side) → t < length s.gates → operand (gate s t) side < row_names s
  operand_named t First l = wire_named _ (wired.first t l)
  operand_named t Second l = wire_named _ (wired.second t l)

  pub content_named : (z : Slot) → Inside s z → AreNamed (row_names s) (content s z)
  content_named (Input v) l = wire_named v (omega (arith, l, wired.input_wires))
  content_named (At_gate t) l = (operand_named t First l, operand_named t Second l, wire_named _ (wired.output t l))
  content_named (Output o) l = output_named o l
  content_named (Mask t side) (l, e) = mask_within s t side l e
  content_named (Mask_product t) (l, e) = (mask_within s t First l e, mask_within s t Second l e, product_named s t l e)
  content_named (Masked t side) (l, e) = (operand_named t side l, mask_within s t side l e)
  content_named (Kept j) l = output_named _ (wired.kept.outputs j no_kept l)

-- without prepared products those of the circuit alone
pub direct_names : (s : Session) → s.prepared ≡ false → row_names s ≡ s.wires
direct_names s e = cond-false s.prepared (s.wires + 3 * length s.gates) s.wires e

pub few_slots : (s : Session) → IsWired s → session_slots s < 4294967295
few_slots s wired = omega (arith, slot_count s, few_before s (length s.gates), wired.wires, wired.gates, wired.input_wires, wired.output_wires, wired.kept.few)
