-- A session whose gates are in order sets each wire once, and reads it only after that, its products prepared or not.
use Rattle.std.proofs.Common.{◌≡◌, ℕ, zero, suc, ◌+◌, ◌*◌, ◌<◌, ◌≤◌, ◌⊎◌, Bool, true, false, ◌||◌, List, [], ◌∷◌, inl, inr, length, refl, sym, ap, ap₂, ◌∙◌, subst, arith}
use Rattle.std.specs.Prelude.{nat_eq, take, All, slice_index_or, if◌then◌else◌}
use Rattle.std.specs.List.{list_any}
use Rattle.std.proofs.lemmas.Bool.{cases_lt, cases_Bool, or_cases, or_left, or_right, cond-true, cond-false, and_parts, eq-eqb, eqb-true, false≢true, false_from_ne_true, both_ways}
use Rattle.circuit_model.specs.Circuits.{is_product}
use Rattle.circuit_model.specs.declared.gate.Gate.{Gate}
use Rattle.circuit_model.specs.declared.gate.Operation.{Operation}
use Rattle.circuit_model.specs.declared.gate.Operation.TheVariants.{Add, Sub, Mul, Neg, Eq, Eqw, And, Xor, Inv}
use Rattle.circuit_model.specs.Netlists.{inputs_read, arity, read_by}
use Rattle.session_slots.specs.declared.values.KeptWire.{KeptWire}
use Rattle.session_slots.specs.declared.side.Side.{Side}
use Rattle.session_slots.specs.declared.side.Side.TheVariants.{First, Second}
use Rattle.session_slots.specs.Sessions.{Session, Slot, owners, readers, gate, is_prepared, kept_wire, no_kept, operand, mask_wire, product_wire, output_wire, session_slot, session_slots}
use Rattle.session_slots.specs.Sessions.Slot.{Input, At_gate, Output, Mask, Mask_product, Masked, Kept}
use Rattle.session_slots.specs.SlotNumbers.{first_of_masks, mask_product_number, first_of_gate, session_slot_number}
use Rattle.session_slots.specs.KeptWires.{sets_in, reads_in, slot_sets, slot_reads, IsInOrder}
use Rattle.session_slots.specs.SoundSessions.{AreKept, Inside, IsWired}
use Rattle.session_slots.proofs.SessionSlots.{gate_rises, masks_before_product, number_within, product_before_inputs, slot_kinds, slot_there, slots_are_numbered}
use Rattle.session_slots.proofs.KeptRows.{one_wire}
use Rattle.session_slots.proofs.SlotReads.{read_named}

-- wire w is an input wire, or one of the first t gates sets it
abbrev pub SetBefore : Session → ℕ → ℕ → Type 0
SetBefore s t w = (w < length (owners s)) ⊎ ((u : ℕ) × (u < t) × (w ≡ (gate s u).output))

-- each gate sets another wire, and what it reads was set before, as the output wires are
pub record GatesInOrder (s : Session) : Type 0 where
  pub fresh : (t : ℕ) → t < length s.gates → SetBefore s t (gate s t).output → ⊥
  pub read : (t w : ℕ) → t < length s.gates → list_any (nat_eq w) (read_by (gate s t)) ≡ true → SetBefore s t w
  pub outputs : (o : ℕ) → o < length (readers s) → SetBefore s (length s.gates) (output_wire s o)

is_one : (u : ℕ) → (nat_eq u u || false) ≡ true
is_one u = or_left (nat_eq u u) false (eq-eqb u u refl)

-- a product reads both wires
abbrev reads_of : Operation → ℕ → ℕ → List ℕ
reads_of o a b = inputs_read o (take (arity o) (a ∷ b ∷ []))

first_read : (o : Operation) (a b : ℕ) → is_product o ≡ true → list_any (nat_eq a) (reads_of o a b) ≡ true
first_read Mul a b e = or_left (nat_eq a a) (nat_eq a b || false) (eq-eqb a a refl)
first_read And a b e = or_left (nat_eq a a) (nat_eq a b || false) (eq-eqb a a refl)
first_read Add a b e = absurd (false≢true e)
first_read Sub a b e = absurd (false≢true e)
first_read Xor a b e = absurd (false≢true e)
first_read Neg a b e = absurd (false≢true e)
first_read Inv a b e = absurd (false≢true e)
first_read Eq a b e = absurd (false≢true e)
first_read Eqw a b e = absurd (false≢true e)

second_read : (o : Operation) (a b : ℕ) → is_product o ≡ true → list_any (nat_eq b) (reads_of o a b) ≡ true
second_read Mul a b e = or_right (nat_eq b a) (nat_eq b b || false) (is_one b)
second_read And a b e = or_right (nat_eq b a) (nat_eq b b || false) (is_one b)
second_read Add a b e = absurd (false≢true e)
second_read Sub a b e = absurd (false≢true e)
second_read Xor a b e = absurd (false≢true e)
second_read Neg a b e = absurd (false≢true e)
second_read Inv a b e = absurd (false≢true e)
second_read Eq a b e = absurd (false≢true e)
second_read Eqw a b e = absurd (false≢true e)

pub operand_read : (g : Gate) (side : Side) → is_product g.operation ≡ true → list_any (nat_eq (operand g side)) (read_by g) ≡ true
operand_read g First e = first_read g.operation g.first g.second e
operand_read g Second e = second_read g.operation g.first g.second e

module _ (s : Session) (h : GatesInOrder s) (inputs_below : length (owners s) ≤ s.wires) (output_below : (t : ℕ) → t < length s.gates → (gate s t).output < s.wires)
    (kept_there : All (λ (wire : KeptWire). wire.output < length (readers s)) s.kept) where
  abbrev Sets : Slot → ℕ → Type 0
  Sets z w = list_any (nat_eq w) (sets_in s z) ≡ true

  abbrev count : ℕ
  count = length s.gates

  -- ---- no two slots set one wire

  -- a slot that sets a wire of the circuit
  abbrev IsLow : Slot → ℕ → Type 0
  IsLow z w = ((z ≡ Input w) × (w < length (owners s))) ⊎ ((t : ℕ) × (t < count) × (z ≡ At_gate t) × (w ≡ (gate s t).output))

  abbrev of_masks : ℕ → ℕ → Slot
  of_masks t zero = Mask t First
  of_masks t (suc zero) = Mask t Second
  of_masks t (suc (suc i)) = Mask_product t

  -- or one of a prepared product's
  record IsHigh (z : Slot) (w : ℕ) : Type 0 where
    gate_of : ℕ
    place : ℕ
    few : place < 3
    wire : w ≡ s.wires + 3 * gate_of + place
    is : z ≡ of_masks gate_of place

  which : (z : Slot) (w : ℕ) → Inside s z → Sets z w → IsLow z w ⊎ IsHigh z w
  which (Input v) w i e = (let is = one_wire v w e in inl (inl (ap (λ n. Input n) (sym is), omega (arith, is, i))))
  which (At_gate t) w i e = inl (inr (t, i, refl, one_wire (gate s t).output w e))
  which (Output o) w i e = absurd (false≢true e)
  which (Mask t First) w i e = inr (record { gate_of = t; place = 0; few = omega arith; wire = (let is = one_wire (mask_wire s t First) w e in omega (arith, is)); is = refl })
  which (Mask t Second) w i e = inr (record { gate_of = t; place = 1; few = omega arith; wire = one_wire (mask_wire s t Second) w e; is = refl })
  which (Mask_product t) w i e = inr (record { gate_of = t; place = 2; few = omega arith; wire = one_wire (product_wire s t) w e; is = refl })
  which (Masked t side) w i e = absurd (false≢true e)
  which (Kept j) w i e = absurd (false≢true e)

  same_gate : (t u w : ℕ) → t < count → u < count → w ≡ (gate s t).output → w ≡ (gate s u).output → t ≡ u
  same_gate t u w lt lu a b = elim (cases_lt t u) [
    | inl l ↦ absurd (h.fresh u lu (inr (t, l, sym b ∙ a)))
    | inr past ↦ elim (cases_lt u t) [
      | inl l ↦ absurd (h.fresh t lt (inr (u, l, sym a ∙ b)))
      | inr back ↦ omega (arith, past, back)
    ]
  ]

  same_low : (y z : Slot) (w : ℕ) → IsLow y w → IsLow z w → y ≡ z
  same_low y z w (inl a) (inl b) = a.0 ∙ sym b.0
  same_low y z w (inl a) (inr b) = absurd (h.fresh b.0 b.1 (inl (subst (λ n. n < length (owners s)) b.3 a.1)))
  same_low y z w (inr a) (inl b) = absurd (h.fresh a.0 a.1 (inl (subst (λ n. n < length (owners s)) a.3 b.1)))
  same_low y z w (inr a) (inr b) = a.2 ∙ ap (λ n. At_gate n) (same_gate a.0 b.0 w a.1 b.1 a.3 b.3) ∙ sym b.2

  low_below : (z : Slot) (w : ℕ) → IsLow z w → w < s.wires
  low_below z w (inl a) = omega (arith, a.1, inputs_below)
  low_below z w (inr a) = omega (arith, a.3, output_below a.0 a.1)

  one_slot : (y z : Slot) (w : ℕ) → Inside s y → Inside s z → Sets y w → Sets z w → y ≡ z
  one_slot y z w i j p q = elim (which y w i p) [
    | inl low ↦ elim (which z w j q) [
      | inl other ↦ same_low y z w low other
      | inr high ↦ absurd (let below = low_below y w low in omega (arith, below, high.wire))
    ]
    | inr high ↦ elim (which z w j q) [
      | inl low ↦ absurd (let below = low_below z w low in omega (arith, below, high.wire))
      | inr other ↦
          let same : high.gate_of ≡ other.gate_of = omega (arith, high.few, other.few, high.wire, other.wire) in
          let place : high.place ≡ other.place = omega (arith, high.wire, other.wire, same) in
          high.is ∙ ap₂ of_masks same place ∙ sym other.is
    ]
  ]

  number_of : (k : ℕ) → k < session_slots s → session_slot_number s (session_slot s k) ≡ k
  number_of k l = (slots_are_numbered s).number k l

  once : (j k w : ℕ) → j < k → k < session_slots s → slot_sets s j w ≡ true → slot_sets s k w ≡ false
  once j k w less l p = false_from_ne_true (slot_sets s k w) (λ q.
      let before : j < session_slots s = omega (arith, less, l) in
      let inside = (slots_are_numbered s).inside in
      let same : session_slot s j ≡ session_slot s k = one_slot (session_slot s j) (session_slot s k) w (inside j before) (inside k l) p q in
      absurd (omega (arith, less, number_of j before, number_of k l, ap (session_slot_number s) same)))

  -- ---- what sets a wire before a slot

  abbrev SetsBefore : ℕ → ℕ → Type 0
  SetsBefore n w = (y : Slot) × Inside s y × (session_slot_number s y < n) × Sets y w

  later : (n m w : ℕ) → n ≤ m → SetsBefore n w → SetsBefore m w
  later n m w le b = (let less = b.2 in (b.0, b.1, omega (arith, less, le), b.3))

  before_gate : (t w : ℕ) → SetBefore s t w → t ≤ count → SetsBefore (first_of_gate s t) w
  before_gate t w (inl l) le = (Input w, l, omega (arith, l), is_one w)
  before_gate t w (inr u) le =
      (At_gate u.0, omega (arith, u.1, le), gate_rises s u.0 t u.1, subst (λ n. list_any (nat_eq n) (sets_in s (At_gate u.0)) ≡ true) (sym u.2) (is_one (gate s u.0).output))

  mask_before : (t : ℕ) (side : Side) (w n : ℕ) → t < count → is_prepared s t ≡ true → first_of_masks s t + 1 < n → w ≡ mask_wire s t side → SetsBefore n w
  mask_before t First w n l e less same = (Mask t First, (l, e), omega (arith, less), subst (λ n. list_any (nat_eq n) (sets_in s (Mask t First)) ≡ true) (sym same) (is_one (mask_wire s t First)))
  mask_before t Second w n l e less same = (Mask t Second, (l, e), less, subst (λ n. list_any (nat_eq n) (sets_in s (Mask t Second)) ≡ true) (sym same) (is_one (mask_wire s t Second)))

  -- all masks stand before the gates
  products_first : (t u : ℕ) → t < count → is_prepared s t ≡ true → mask_product_number s t < first_of_gate s u
  products_first t u l e = omega (arith, product_before_inputs s t l e)

  masks_first : (t u : ℕ) → t < count → is_prepared s t ≡ true → first_of_masks s t + 1 < first_of_gate s u
  masks_first t u l e = omega (arith, product_before_inputs s t l e, masks_before_product s t l e)

  masked_number : (t : ℕ) (side : Side) → first_of_gate s t ≤ session_slot_number s (Masked t side)
  masked_number t First = omega arith
  masked_number t Second = omega arith

  read_before : (z : Slot) (w : ℕ) → Inside s z → list_any (nat_eq w) (reads_in s z) ≡ true → SetsBefore (session_slot_number s z) w
  read_before (Input v) w i e = absurd (false≢true e)
  read_before (Mask t side) w i e = absurd (false≢true e)
  read_before (Mask_product t) w i e = elim (or_cases (nat_eq w (mask_wire s t First)) (nat_eq w (mask_wire s t Second) || false) e) [
    | inl first ↦ mask_before t First w _ i.0 i.1 (masks_before_product s t i.0 i.1) (eqb-true w (mask_wire s t First) first)
    | inr second ↦ mask_before t Second w _ i.0 i.1 (masks_before_product s t i.0 i.1) (one_wire (mask_wire s t Second) w second)
  ]
  read_before (Masked t side) w i e = elim (or_cases (nat_eq w (operand (gate s t) side)) (nat_eq w (mask_wire s t side) || false) e) [
    | inl wire ↦
        let same : w ≡ operand (gate s t) side = eqb-true w (operand (gate s t) side) wire in
        let read = operand_read (gate s t) side (and_parts s.prepared (is_product (gate s t).operation) i.1).1 in
        later (first_of_gate s t) _ w (masked_number t side)
        (before_gate t w (h.read t w i.0 (subst (λ v. list_any (nat_eq v) (read_by (gate s t)) ≡ true) (sym same) read)) (omega (arith, i.0)))
    | inr mask ↦ mask_before t side w _ i.0 i.1 (let a = masks_first t t i.0 i.1 in let b = masked_number t side in omega (arith, a, b)) (one_wire (mask_wire s t side) w mask)
  ]
  read_before (At_gate t) w l e = elim (cases_Bool (is_prepared s t)) [
    | inl yes' ↦
        let three : (nat_eq w (mask_wire s t First) || (nat_eq w (mask_wire s t Second) || (nat_eq w (product_wire s t) || false))) ≡ true =
        subst (λ (ws : List ℕ). list_any (nat_eq w) ws ≡ true) (cond-true (is_prepared s t) (mask_wire s t First ∷ mask_wire s t Second ∷ product_wire s t ∷ []) (read_by (gate s t)) yes') e in
        let all = masks_first t t l yes' in
        elim (or_cases (nat_eq w (mask_wire s t First)) _ three) [
          | inl first ↦ mask_before t First w _ l yes' (omega (arith, all)) (eqb-true w (mask_wire s t First) first)
          | inr rest ↦ elim (or_cases (nat_eq w (mask_wire s t Second)) _ rest) [
            | inl second ↦ mask_before t Second w _ l yes' (omega (arith, all)) (eqb-true w (mask_wire s t Second) second)
            | inr product ↦ (Mask_product t, (l, yes'), omega (arith, products_first t t l yes'), subst (λ n. list_any (nat_eq n) (sets_in s (Mask_product t)) ≡ true) (sym (one_wire (product_wire s t) w product)) (is_one (product_wire s t)))
          ]
        ]
    | inr no' ↦
        let read : list_any (nat_eq w) (read_by (gate s t)) ≡ true =
        subst (λ (ws : List ℕ). list_any (nat_eq w) ws ≡ true) (cond-false (is_prepared s t) (mask_wire s t First ∷ mask_wire s t Second ∷ product_wire s t ∷ []) (read_by (gate s t)) no') e in
        later (first_of_gate s t) _ w (omega arith) (before_gate t w (h.read t w l read) (omega (arith, l)))
  ]
  read_before (Output o) w l e =
      later (first_of_gate s count) _ w (omega arith) (before_gate count w (subst (SetBefore s count) (sym (one_wire (output_wire s o) w e)) (h.outputs o l)) (omega arith))
  read_before (Kept j) w l e =
      let set = h.outputs (slice_index_or s.kept j no_kept).output (kept_there j no_kept l) in
      later (first_of_gate s count) _ w (omega arith) (before_gate count w (subst (SetBefore s count) (sym (one_wire (kept_wire s j) w e)) set) (omega arith))

  pub in_order : IsInOrder s
  in_order = record {
    once = once;
    before = λ k w l e.
        let found = read_before (session_slot s k) w ((slots_are_numbered s).inside k l) e in
        let less = found.2 in
        (session_slot_number s found.0, omega (arith, less, number_of k l), subst (λ y. Sets y w) (sym (slot_there s found.0 found.1)) found.3);
  }

-- ---- the gates of a wired session are in order

module _ (s : Session) (wired : IsWired s) where
  abbrev number : Slot → ℕ
  number z = session_slot_number s z

  sets_at : (z : Slot) (w : ℕ) → Inside s z → list_any (nat_eq w) (sets_in s z) ≡ true → slot_sets s (number z) w ≡ true
  sets_at z w i e = subst (λ y. list_any (nat_eq w) (sets_in s y) ≡ true) (sym (slot_there s z i)) e

  reads_at : (z : Slot) (w : ℕ) → Inside s z → list_any (nat_eq w) (reads_in s z) ≡ true → slot_reads s (number z) w ≡ true
  reads_at z w i e = subst (λ y. list_any (nat_eq w) (reads_in s y) ≡ true) (sym (slot_there s z i)) e

  -- wire w is an input wire, or slot j is of the gate that sets it
  abbrev SetIn : ℕ → ℕ → Type 0
  SetIn j w = (w < length (owners s)) ⊎ ((u : ℕ) × (u < length s.gates) × (w ≡ (gate s u).output) × (number (At_gate u) ≡ j))

  set_in : (j w : ℕ) → j < session_slots s → w < s.wires → slot_sets s j w ≡ true → SetIn j w
  set_in j w l below = slot_kinds s (λ j z. list_any (nat_eq w) (sets_in s z) ≡ true → SetIn j w) each j l
    where
      each : (z : Slot) → Inside s z → list_any (nat_eq w) (sets_in s z) ≡ true → SetIn (number z) w
      each (Input v) i e = inl (let is = one_wire v w e in omega (arith, is, i))
      each (At_gate t) i e = inr (t, i, one_wire (gate s t).output w e, refl)
      each (Output o) i e = absurd (false≢true e)
      each (Mask t First) i e = absurd (let is = one_wire (mask_wire s t First) w e in omega (arith, is, below))
      each (Mask t Second) i e = absurd (let is = one_wire (mask_wire s t Second) w e in omega (arith, is, below))
      each (Mask_product t) i e = absurd (let is = one_wire (product_wire s t) w e in omega (arith, is, below))
      each (Masked t side) i e = absurd (false≢true e)
      each (Kept j) i e = absurd (false≢true e)

  set_early : (t j w : ℕ) → j < number (At_gate t) → SetIn j w → SetBefore s t w
  set_early t j w less (inl l) = inl l
  set_early t j w less (inr u) = elim (cases_lt u.0 t) [
    | inl before ↦ inr (u.0, before, u.2)
    | inr past ↦ elim (cases_lt t u.0) [
      | inl after ↦ absurd (let rises = gate_rises s t u.0 after in omega (arith, rises, less, u.3))
      | inr back ↦ absurd (let same : t ≡ u.0 = omega (arith, past, back) in omega (arith, ap (λ n. number (At_gate n)) same, less, u.3))
    ]
  ]

  -- what a slot up to that of gate t reads is set before the gate
  read_early : (t w : ℕ) (z : Slot) → Inside s z → w < s.wires → list_any (nat_eq w) (reads_in s z) ≡ true → number z ≤ number (At_gate t) → SetBefore s t w
  read_early t w z i below e le =
      let set = wired.order.before (number z) w (number_within s z i) (reads_at z w i e) in
      set_early t set.0 w (omega (arith, set.1, le)) (set_in set.0 w (omega (arith, set.1, number_within s z i)) below set.2)

  -- of a prepared product the operands are read before its own slot
  operand_early : (t w : ℕ) (side : Side) → t < length s.gates → is_prepared s t ≡ true → w < s.wires → nat_eq w (operand (gate s t) side) ≡ true → SetBefore s t w
  operand_early t w side l e below same =
      read_early t w (Masked t side) (l, e) below (or_left (nat_eq w (operand (gate s t) side)) (nat_eq w (mask_wire s t side) || false) same) (masked_early side)
    where
      two : ◌≡◌ {A = ℕ} (if is_prepared s t then 2 else 0) 2
      two = cond-true (is_prepared s t) 2 0 e

      masked_early : (side : Side) → number (Masked t side) ≤ number (At_gate t)
      masked_early First = omega arith
      masked_early Second = omega (arith, two)

  gate_early : (t w : ℕ) → t < length s.gates → list_any (nat_eq w) (read_by (gate s t)) ≡ true → SetBefore s t w
  gate_early t w l e = elim (or_cases (nat_eq w (gate s t).first) (nat_eq w (gate s t).second) (read_named (gate s t) w e)) [
    | inl one ↦ by_side First (let is = eqb-true w (gate s t).first one in omega (arith, is, wired.first t l)) one
    | inr two ↦ by_side Second (let is = eqb-true w (gate s t).second two in omega (arith, is, wired.second t l)) two
  ]
    where
      by_side : (side : Side) → w < s.wires → nat_eq w (operand (gate s t) side) ≡ true → SetBefore s t w
      by_side side below same = elim (cases_Bool (is_prepared s t)) [
        | inl yes' ↦ operand_early t w side l yes' below same
        | inr no' ↦ read_early t w (At_gate t) l below
            (subst (λ (ws : List ℕ). list_any (nat_eq w) ws ≡ true) (sym (cond-false (is_prepared s t) (mask_wire s t First ∷ mask_wire s t Second ∷ product_wire s t ∷ []) (read_by (gate s t)) no')) e) (omega arith)
      ]

  pub gates_in_order : GatesInOrder s
  gates_in_order = record {
    fresh = λ t l set. fresh t l set;
    read = gate_early;
    outputs = λ o l.
        let w = output_wire s o in
        let set = wired.order.before (number (Output o)) w (number_within s (Output o) l) (reads_at (Output o) w l (is_one w)) in
        set_at_all (set_in set.0 w (omega (arith, set.1, number_within s (Output o) l)) (omega (arith, l, wired.output_wires)) set.2);
  }
    where
      fresh : (t : ℕ) → t < length s.gates → SetBefore s t (gate s t).output → ⊥
      fresh t l (inl input) =
          let w = (gate s t).output in
          both_ways (slot_sets s (number (At_gate t)) w)
          (wired.order.once (number (Input w)) (number (At_gate t)) w (omega (arith, input)) (number_within s (At_gate t) l) (sets_at (Input w) w input (is_one w)))
          (sets_at (At_gate t) w l (is_one w))
      fresh t l (inr u) =
          let w = (gate s t).output in
          let rises = gate_rises s u.0 t u.1 in
          both_ways (slot_sets s (number (At_gate t)) w)
          (wired.order.once (number (At_gate u.0)) (number (At_gate t)) w (omega (arith, rises)) (number_within s (At_gate t) l)
          (sets_at (At_gate u.0) w (omega (arith, u.1, l)) (or_left (nat_eq w (gate s u.0).output) false (eq-eqb w (gate s u.0).output u.2))))
          (sets_at (At_gate t) w l (is_one w))

      set_at_all : {j w : ℕ} → SetIn j w → SetBefore s (length s.gates) w
      set_at_all (inl l) = inl l
      set_at_all (inr u) = inr (u.0, u.1, u.2)

-- a wired session stays so, whether its products are prepared or not, and whatever is kept of it
pub wired_with : (s : Session) (prepared ahead : Bool) (kept : List KeptWire) → IsWired s → AreKept s kept → IsWired (record s { prepared = prepared; ahead = ahead; kept = kept })
wired_with s prepared ahead kept v can = record {
  wires = v.wires;
  gates = v.gates;
  input_wires = v.input_wires;
  output_wires = v.output_wires;
  first = v.first;
  second = v.second;
  output = v.output;
  kept = record { outputs = can.outputs; few = can.few };
  order =
      let order = gates_in_order s v in
      in_order (record s { prepared = prepared; ahead = ahead; kept = kept }) (record { fresh = order.fresh; read = order.read; outputs = order.outputs }) v.input_wires v.output can.outputs;
}
