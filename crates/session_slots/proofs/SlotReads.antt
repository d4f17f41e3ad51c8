-- The wires that a slot sets and reads have rows; and what the slot of a gate reads.
use Rattle.std.proofs.Common.{◌≡◌, ℕ, ◌+◌, ◌<◌, true, false, ◌||◌, List, [], ◌∷◌, length, take, Some, sym, ◌∙◌, ap, arith, get_or}
use Rattle.std.specs.Prelude.{nat_eq}
use Rattle.std.specs.List.{list_any}
use Rattle.std.proofs.lemmas.Bool.{or_left, cond-false, false≢true}
use Rattle.std.proofs.lemmas.List.{get_or_default}
use Rattle.list_laws.proofs.Tests.{or_false}
use Rattle.circuit_model.specs.declared.gate.Gate.{Gate}
use Rattle.circuit_model.specs.declared.gate.Operation.{Operation}
use Rattle.circuit_model.specs.declared.gate.Operation.TheVariants.{Add, Sub, Mul, Neg, Eq, Eqw, And, Xor, Inv}
use Rattle.circuit_model.specs.Netlists.{arity, inputs_read, read_by}
use Rattle.session_slots.specs.declared.side.Side.TheVariants.{First, Second}
use Rattle.session_slots.specs.Sessions.{Session, Slot, gate, no_gate, is_prepared, mask_wire, product_wire, row_names, owners, session_slots}
use Rattle.session_slots.specs.Sessions.Slot.{Input, At_gate, Output, Mask, Mask_product, Masked, Kept}
use Rattle.session_slots.specs.KeptWires.{reads_in, sets_in, slot_reads, slot_sets}
use Rattle.session_slots.specs.SoundSessions.{IsWired, Inside}
use Rattle.session_slots.specs.Wirings.{is_named}
use Rattle.session_slots.proofs.SessionSlots.{none_prepared, slot_gate, slot_kinds}
use Rattle.session_slots.proofs.RowNames.{wires_named, mask_within, product_named}
use Rattle.session_slots.proofs.KeptRows.{one_wire}

-- ---- the wires of a slot are wires

pub sets_within : (s : Session) (k w : ℕ) → IsWired s → k < session_slots s → slot_sets s k w ≡ true → w < row_names s
sets_within s k w wired l = slot_kinds s (λ k z. list_any (nat_eq w) (sets_in s z) ≡ true → w < row_names s) each k l
  where
    each : (z : Slot) → Inside s z → list_any (nat_eq w) (sets_in s z) ≡ true → w < row_names s
    each (Input v) lv e = omega (arith, one_wire v w e, lv, wired.input_wires, wires_named s)
    each (At_gate t) lt e = omega (arith, one_wire (gate s t).output w e, wired.output t lt, wires_named s)
    each (Output o) lo e = absurd (false≢true e)
    each (Mask t side) i e = omega (arith, one_wire (mask_wire s t side) w e, mask_within s t side i.0 i.1)
    each (Mask_product t) i e = omega (arith, one_wire (product_wire s t) w e, product_named s t i.0 i.1)
    each (Masked t side) i e = absurd (false≢true e)
    each (Kept j) i e = absurd (false≢true e)

pub reads_within : (s : Session) (k w : ℕ) → IsWired s → k < session_slots s → slot_reads s k w ≡ true → w < row_names s
reads_within s k w wired l e =
    let set = wired.order.before k w l e in
    sets_within s set.0 w wired (omega (arith, set.1, l)) set.2

-- ---- what a gate reads

pub gate_reads : (s : Session) → s.prepared ≡ false → (n t w : ℕ) (g : Gate) → t < length s.gates → n ≡ length (owners s) → g ≡ get_or s.gates t g → slot_reads s (n + t) w ≡ list_any (nat_eq w) (read_by g)
gate_reads s direct n t w g l inputs is =
    ap (λ (k : ℕ). slot_reads s (k + t) w) inputs ∙ ap (λ (z : Slot). list_any (nat_eq w) (reads_in s z)) (slot_gate s direct t l)
    ∙ ap (λ (z : List ℕ). list_any (nat_eq w) z) (cond-false (is_prepared s t) (mask_wire s t First ∷ mask_wire s t Second ∷ product_wire s t ∷ []) (read_by (gate s t)) (none_prepared s direct t))
    ∙ ap (λ (h : Gate). list_any (nat_eq w) (read_by h)) (get_or_default s.gates t no_gate g l ∙ sym is)

-- a gate reads wires in its fields alone
named_in : (o : Operation) (a b w : ℕ) → list_any (nat_eq w) (inputs_read o (take (arity o) (a ∷ b ∷ []))) ≡ true → (nat_eq w a || nat_eq w b) ≡ true
named_in Add a b w e = ap (λ z. nat_eq w a || z) (sym (or_false (nat_eq w b))) ∙ e
named_in Sub a b w e = ap (λ z. nat_eq w a || z) (sym (or_false (nat_eq w b))) ∙ e
named_in Mul a b w e = ap (λ z. nat_eq w a || z) (sym (or_false (nat_eq w b))) ∙ e
named_in And a b w e = ap (λ z. nat_eq w a || z) (sym (or_false (nat_eq w b))) ∙ e
named_in Xor a b w e = ap (λ z. nat_eq w a || z) (sym (or_false (nat_eq w b))) ∙ e
named_in Neg a b w e = or_left (nat_eq w a) (nat_eq w b) (sym (or_false (nat_eq w a)) ∙ e)
named_in Inv a b w e = or_left (nat_eq w a) (nat_eq w b) (sym (or_false (nat_eq w a)) ∙ e)
named_in Eqw a b w e = or_left (nat_eq w a) (nat_eq w b) (sym (or_false (nat_eq w a)) ∙ e)
named_in Eq a b w e = absurd (false≢true e)

pub read_named : (g : Gate) (w : ℕ) → list_any (nat_eq w) (read_by g) ≡ true → (is_named (Some g.first) w || is_named (Some g.second) w) ≡ true
read_named g w e = named_in g.operation g.first g.second w e
