-- The batches after one slot more.
use Rattle.std.proofs.Common.{◌≡◌, ℕ, zero, suc, ◌+◌, ◌-◌, ◌<◌, ◌≤◌, Bool, true, false, not, ◌&&◌, ◌||◌, ◌⊎◌, List, [], ◌∷◌, ◌++◌, length, replicate, inl, inr, Some, None, refl, sym, ◌∙◌, ap, subst, arith, length-append}
use Rattle.std.specs.Prelude.{nat_eq, nat_le, slice_index, slice_index_or, Option, if◌then◌else◌}
use Rattle.std.specs.List.{list_any}
use Rattle.std.proofs.Math.ListN.{get_or-append}
use Rattle.std.proofs.Math.Seq.{get_or-append_right}
use Rattle.std.proofs.lemmas.List.{get_or_default, get_or-replicate, length-replicate}
use Rattle.std.proofs.lemmas.Bool.{cases_Bool, cases_eq, cases_lt, cond-true, cond-false, or_cases, or_left, or_right, and_parts, and_from, both_ways, eq-eqb, eqb-true, le-leb, leb-true, false≢true, false_from_ne_true}
use Rattle.list_laws.specs.Lists.{only_if, some_below}
use Rattle.list_laws.proofs.Tests.{or_false}
use Rattle.circuit_model.specs.declared.gate.Gate.{Gate}
use Rattle.circuit_model.specs.Circuits.{is_product}
use Rattle.job_session.specs.declared.batch_scan.BatchScan.{BatchScan}
use Rattle.session_slots.specs.Sessions.{Session, Slot, gate, no_gate, mask_wire, product_wire, row_names, owners, readers, output_wire, session_slot, session_slots}
use Rattle.session_slots.specs.Sessions.Slot.{Input, At_gate, Output, Mask, Mask_product, Masked, Kept}
use Rattle.session_slots.specs.KeptWires.{reads_in, slot_reads}
use Rattle.session_slots.specs.SoundSessions.{IsWired, Inside}
use Rattle.session_slots.specs.Wirings.{is_named}
use Rattle.job_session.specs.Batches.{batch, waits, waits_for, IsBatch, AreBatchEnds}
use Rattle.session_slots.specs.EarlyWires.{completes, slot_completes, is_join, reads_early, sets_early}
use Rattle.job_session.specs.BatchScans.{stamp, has_join, IsBatchScan, IsGateSlot, AreEarlyReads, IsCompleted, has_stamp}
use Rattle.session_slots.proofs.SessionSlots.{none_prepared, slot_input, slot_gate, slot_output, slot_kinds}
use Rattle.session_slots.proofs.RowNames.{wires_named, mask_within, product_named}
use Rattle.session_slots.proofs.SlotReads.{read_named, gate_reads, reads_within}
use Rattle.session_slots.proofs.KeptRows.{one_wire, some_found, some_at}
use Rattle.job_session.proofs.ScannedSlots.{same_bool}
use Rattle.job_session.proofs.BatchOrder.{batch_within, same_batch, first_same, rising, next_begins, next_joins}

-- ---- what slots complete

only_one : (b : Bool) (w v : ℕ) → list_any (nat_eq w) (only_if b (v ∷ [])) ≡ (b && nat_eq w v)
only_one true w v = or_false (nat_eq w v)
only_one false w v = refl

pub completes_within : (s : Session) (k w : ℕ) → IsWired s → k < session_slots s → slot_completes s k w ≡ true → w < row_names s
completes_within s k w wired l = slot_kinds s (λ k z. list_any (nat_eq w) (completes s z) ≡ true → w < row_names s) each k l
  where
    each : (z : Slot) → Inside s z → list_any (nat_eq w) (completes s z) ≡ true → w < row_names s
    each (Input v) lv e = omega (arith, one_wire v w e, lv, wired.input_wires, wires_named s)
    each (At_gate t) lt e =
        let parts = and_parts (is_product (gate s t).operation) (nat_eq w (gate s t).output) (sym (only_one (is_product (gate s t).operation) w (gate s t).output) ∙ e) in
        omega (arith, eqb-true w (gate s t).output parts.1, wired.output t lt, wires_named s)
    each (Output o) lo e = absurd (false≢true e)
    each (Mask t side) i e = omega (arith, one_wire (mask_wire s t side) w e, mask_within s t side i.0 i.1)
    each (Mask_product t) i e = omega (arith, one_wire (product_wire s t) w e, product_named s t i.0 i.1)
    each (Masked t side) i e = absurd (false≢true e)
    each (Kept j) i e = absurd (false≢true e)

-- ---- a direct session has no slot of a prepared product

pub no_join : (s : Session) → s.prepared ≡ false → (z : Slot) → is_join s z ≡ false
no_join s direct (At_gate t) = none_prepared s direct t
no_join s direct z = refl

pub early_direct : (s : Session) → s.prepared ≡ false → (k w : ℕ) → list_any (nat_eq w) (reads_early s (session_slot s k)) ≡ slot_reads s k w
early_direct s direct k w = ap (λ b. list_any (nat_eq w) (only_if (not b) (reads_in s (session_slot s k)))) (no_join s direct (session_slot s k))

pub none_join : (s : Session) → s.prepared ≡ false → (j k : ℕ) → has_join s j k ≡ false
none_join s direct j k = false_from_ne_true (has_join s j k) (λ e.
    let found = some_found k (λ i. nat_le (batch s j) i && is_join s (session_slot s i)) e in
    let parts = and_parts (nat_le (batch s j) found.0) (is_join s (session_slot s found.0)) found.2 in
    both_ways (is_join s (session_slot s found.0)) (no_join s direct (session_slot s found.0)) parts.1)

-- so a slot waits for those that complete what it reads
pub waits_direct : (s : Session) → s.prepared ≡ false → (k j : ℕ) → waits_for s k j ≡ list_any (slot_completes s j) (reads_in s (session_slot s k))
waits_direct s direct k j =
    let z = session_slot s k in
    ap (λ b. list_any (slot_completes s j) (only_if (not b) (reads_in s z)) || (is_join s (session_slot s j) && sets_early s z)) (no_join s direct z)
    ∙ ap (λ b. list_any (slot_completes s j) (reads_in s z) || (b && sets_early s z)) (no_join s direct (session_slot s j))
    ∙ or_false (list_any (slot_completes s j) (reads_in s z))

-- the slot of a gate
pub gate_slot : (s : Session) (n t : ℕ) (g : Gate) → IsWired s → s.prepared ≡ false → t < length s.gates → n ≡ length (owners s) → g ≡ slice_index_or s.gates t g → IsGateSlot s (n + t) g
gate_slot s n t g wired direct l inputs is =
    let own : gate s t ≡ g = get_or_default s.gates t no_gate g l ∙ sym is in
    record {
      first = subst (λ (h : Gate). h.first < s.wires) own (wired.first t l);
      second = subst (λ (h : Gate). h.second < s.wires) own (wired.second t l);
      output = subst (λ (h : Gate). h.output < s.wires) own (wired.output t l);
      reads = λ w. gate_reads s direct n t w g l inputs is;
      completes = λ w.
          ap (λ (k : ℕ). slot_completes s (k + t) w) inputs ∙ ap (λ (z : Slot). list_any (nat_eq w) (completes s z)) (slot_gate s direct t l)
          ∙ ap (λ (h : Gate). list_any (nat_eq w) (only_if (is_product h.operation) (h.output ∷ []))) own
          ∙ only_one (is_product g.operation) w g.output;
    }

-- the slot of an input wire, and that of an output wire
pub input_slot : (s : Session) → s.prepared ≡ false → (v : ℕ) → v < length (owners s) → AreEarlyReads s v None None × IsCompleted s v (Some v)
input_slot s direct v l = (
  record { are = λ w. early_direct s direct v w ∙ ap (λ (z : Slot). list_any (nat_eq w) (reads_in s z)) (slot_input s direct v l) },
  record { is = λ w. ap (λ (z : Slot). list_any (nat_eq w) (completes s z)) (slot_input s direct v l) ∙ or_false (nat_eq w v) },
)

pub output_slot : (s : Session) → s.prepared ≡ false → (k o wire : ℕ) → o < length (readers s) → k ≡ length (owners s) + length s.gates + o → wire ≡ output_wire s o
    → AreEarlyReads s k (Some wire) None × IsCompleted s k None
output_slot s direct k o wire l at is = (
  record {
    are = λ w. early_direct s direct k w ∙ ap (λ (n : ℕ). slot_reads s n w) at ∙ ap (λ (z : Slot). list_any (nat_eq w) (reads_in s z)) (slot_output s direct o l) ∙ ap (λ (v : ℕ). nat_eq w v || false) (sym is);
  },
  record { is = λ w. ap (λ (n : ℕ). slot_completes s n w) at ∙ ap (λ (z : Slot). list_any (nat_eq w) (completes s z)) (slot_output s direct o l) },
)

-- ---- stamps

module _ (s : Session) where
  -- a stamp is of the batch of a slot that completes the wire
  pub find : (k w a : ℕ) → stamp s k w ≡ suc a → (j : ℕ) × (j < k) × (slot_completes s j w ≡ true) × (batch s j ≡ a)
  find zero w a e = absurd (omega arith)
  find (suc k) w a e = elim (cases_Bool (slot_completes s k w)) [
    | inl here ↦
        let is : stamp s (suc k) w ≡ suc (batch s k) = cond-true (slot_completes s k w) (suc (batch s k)) (stamp s k w) here in
        (k, omega arith, here, omega arith)
    | inr not' ↦
        let is : stamp s (suc k) w ≡ stamp s k w = cond-false (slot_completes s k w) (suc (batch s k)) (stamp s k w) not' in
        let found = find k w a (sym is ∙ e) in
        (found.0, omega (arith, found.1), found.2, found.3)
  ]

  -- so of none behind that of the last slot
  stamped_most : (k w : ℕ) → stamp s (suc k) w ≤ suc (batch s k)
  stamped_most k w = elim (cases_eq (stamp s (suc k) w) 0) [
    | inl none ↦ omega arith
    | inr some ↦
        let found = find (suc k) w (stamp s (suc k) w - 1) (omega arith) in
        let later = rising s found.0 k (omega (arith, found.1)) in
        omega (arith, found.3)
  ]

  -- and of none before that of a slot that completes it
  stamped_least : (k j w : ℕ) → j < k → slot_completes s j w ≡ true → batch s j < stamp s k w
  stamped_least zero j w l e = absurd (omega arith)
  stamped_least (suc k) j w l e = elim (cases_Bool (slot_completes s k w)) [
    | inl here ↦
        let is : stamp s (suc k) w ≡ suc (batch s k) = cond-true (slot_completes s k w) (suc (batch s k)) (stamp s k w) here in
        let later = rising s j k (omega arith) in
        omega arith
    | inr not' ↦
        let is : stamp s (suc k) w ≡ stamp s k w = cond-false (slot_completes s k w) (suc (batch s k)) (stamp s k w) not' in
        elim (cases_eq j k) [
          | inl same ↦ absurd (both_ways (slot_completes s k w) not' (subst (λ (z : ℕ). slot_completes s z w ≡ true) same e))
          | inr other ↦ let before = stamped_least k j w (omega arith) e in omega arith
        ]
  ]

-- ---- a slot that waits reads a wire with the stamp of the batch that is begun

any_found : (f : ℕ → Bool) (xs : List ℕ) → list_any f xs ≡ true → (w : ℕ) × (list_any (nat_eq w) xs ≡ true) × (f w ≡ true)
any_found f [] e = absurd (false≢true e)
any_found f (x ∷ xs) e = elim (or_cases (f x) (list_any f xs) e) [
  | inl here ↦ (x, or_left (nat_eq x x) (list_any (nat_eq x) xs) (eq-eqb x x refl), here)
  | inr later ↦ let found = any_found f xs later in (found.0, or_right (nat_eq found.0 x) (list_any (nat_eq found.0) xs) found.1, found.2)
]

any_from : (f : ℕ → Bool) (xs : List ℕ) (w : ℕ) → list_any (nat_eq w) xs ≡ true → f w ≡ true → list_any f xs ≡ true
any_from f [] w e passes = absurd (false≢true e)
any_from f (x ∷ xs) w e passes = elim (or_cases (nat_eq w x) (list_any (nat_eq w) xs) e) [
  | inl same ↦ or_left (f x) (list_any f xs) (subst (λ (z : ℕ). f z ≡ true) (eqb-true w x same) passes)
  | inr later ↦ or_right (f x) (list_any f xs) (any_from f xs w later passes)
]

stamp_found : (o : Option ℕ) (stamps : List ℕ) (n : ℕ) → has_stamp o stamps n ≡ true → (w : ℕ) × (is_named o w ≡ true) × (slice_index stamps w ≡ n)
stamp_found None stamps n e = absurd (false≢true e)
stamp_found (Some w) stamps n e = (w, eq-eqb w w refl, eqb-true (slice_index stamps w) n e)

stamp_from : (o : Option ℕ) (stamps : List ℕ) (n w : ℕ) → is_named o w ≡ true → slice_index stamps w ≡ n → has_stamp o stamps n ≡ true
stamp_from None stamps n w e is = absurd (false≢true e)
stamp_from (Some v) stamps n w e is = eq-eqb (slice_index stamps v) n (ap (slice_index stamps) (sym (eqb-true w v e)) ∙ is)

abbrev either_stamped : Option ℕ → Option ℕ → List ℕ → ℕ → Bool
either_stamped one two stamps n = has_stamp one stamps n || has_stamp two stamps n

abbrev early : Session → ℕ → ℕ → Bool
early s k w = list_any (nat_eq w) (reads_early s (session_slot s k))

pub early_within : (s : Session) (k w : ℕ) → IsWired s → k < session_slots s → early s k w ≡ true → w < row_names s
early_within s k w wired l e = elim (cases_Bool (is_join s (session_slot s k))) [
  | inl join ↦ absurd (false≢true (sym (ap (λ b. list_any (nat_eq w) (only_if (not b) (reads_in s (session_slot s k)))) join) ∙ e))
  | inr none ↦ reads_within s k w wired l (sym (ap (λ b. list_any (nat_eq w) (only_if (not b) (reads_in s (session_slot s k)))) none) ∙ e)
]

read_found : (s : Session) (k : ℕ) (one two : Option ℕ) (stamps : List ℕ) (n : ℕ) → AreEarlyReads s k one two → either_stamped one two stamps n ≡ true
    → (w : ℕ) × (early s k w ≡ true) × (slice_index stamps w ≡ n)
read_found s k one two stamps n reads e = elim (or_cases (has_stamp one stamps n) (has_stamp two stamps n) e) [
  | inl first ↦ let found = stamp_found one stamps n first in (found.0, reads.are found.0 ∙ or_left (is_named one found.0) (is_named two found.0) found.1, found.2)
  | inr second ↦ let found = stamp_found two stamps n second in (found.0, reads.are found.0 ∙ or_right (is_named one found.0) (is_named two found.0) found.1, found.2)
]

read_from : (s : Session) (k : ℕ) (one two : Option ℕ) (stamps : List ℕ) (n w : ℕ) → AreEarlyReads s k one two → early s k w ≡ true → slice_index stamps w ≡ n
    → either_stamped one two stamps n ≡ true
read_from s k one two stamps n w reads e is = elim (or_cases (is_named one w) (is_named two w) (sym (reads.are w) ∙ e)) [
  | inl first ↦ or_left (has_stamp one stamps n) (has_stamp two stamps n) (stamp_from one stamps n w first is)
  | inr second ↦ or_right (has_stamp one stamps n) (has_stamp two stamps n) (stamp_from two stamps n w second is)
]

-- a slot that waits reads a wire with the stamp of the batch early, or sets one early and there is a join in the batch
waits_found : (s : Session) (i : ℕ) (stamps : List ℕ) (n : ℕ) → ((w : ℕ) → slice_index stamps w ≡ stamp s (suc i) w) → n ≡ suc (batch s i) → waits s (batch s i) (suc i) ≡ true
    → ((w : ℕ) × (early s (suc i) w ≡ true) × (slice_index stamps w ≡ n)) ⊎ ((has_join s i (suc i) && sets_early s (session_slot s (suc i))) ≡ true)
waits_found s i stamps n are is e =
    let z = session_slot s (suc i) in
    let found = some_found (suc i) (λ j. nat_le (batch s i) j && waits_for s (suc i) j) e in
    let parts = and_parts (nat_le (batch s i) found.0) (waits_for s (suc i) found.0) found.2 in
    let joins = is_join s (session_slot s found.0) in
    elim (or_cases (list_any (slot_completes s found.0) (reads_early s z)) (joins && sets_early s z) parts.1) [
      | inl reads ↦ inl
          (let read = any_found (slot_completes s found.0) (reads_early s z) reads in
          let later = rising s (batch s i) found.0 (leb-true (batch s i) found.0 parts.0) in
          let same : slice_index stamps read.0 ≡ n = omega (arith, are read.0, is, later, first_same s i, stamped_most s i read.0, stamped_least s (suc i) found.0 read.0 found.1 read.2) in
          (read.0, read.1, same))
      | inr sets ↦ inr
          (let both = and_parts joins (sets_early s z) sets in
          and_from (has_join s i (suc i)) (sets_early s z)
          (some_at (suc i) (λ j. nat_le (batch s i) j && is_join s (session_slot s j)) found.0 found.1 (and_from (nat_le (batch s i) found.0) joins parts.0 both.0))
          both.1)
    ]

waits_by_stamps : (s : Session) (i : ℕ) (one two : Option ℕ) (stamps : List ℕ) (n : ℕ) → AreEarlyReads s (suc i) one two → ((w : ℕ) → slice_index stamps w ≡ stamp s (suc i) w)
    → n ≡ suc (batch s i) → (either_stamped one two stamps n || (has_join s i (suc i) && sets_early s (session_slot s (suc i)))) ≡ waits s (batch s i) (suc i)
waits_by_stamps s i one two stamps n reads are is = same_bool (either_stamped one two stamps n || (has_join s i (suc i) && sets_early s (session_slot s (suc i)))) (waits s (batch s i) (suc i))
    (λ e. elim (or_cases (either_stamped one two stamps n) (has_join s i (suc i) && sets_early s (session_slot s (suc i))) e) [
      | inl stamped ↦
          let read = read_found s (suc i) one two stamps n reads stamped in
          let found = find s (suc i) read.0 (batch s i) (sym (are read.0) ∙ read.2 ∙ is) in
          let from : batch s i ≤ found.0 = omega (arith, found.3, batch_within s found.0) in
          waits_at found.0 found.1 from (or_left (list_any (slot_completes s found.0) (reads_early s (session_slot s (suc i)))) (is_join s (session_slot s found.0) && sets_early s (session_slot s (suc i)))
          (any_from (slot_completes s found.0) (reads_early s (session_slot s (suc i))) read.0 read.1 found.2))
      | inr late ↦
          let both = and_parts (has_join s i (suc i)) (sets_early s (session_slot s (suc i))) late in
          let found = some_found (suc i) (λ j. nat_le (batch s i) j && is_join s (session_slot s j)) both.0 in
          let parts = and_parts (nat_le (batch s i) found.0) (is_join s (session_slot s found.0)) found.2 in
          waits_at found.0 found.1 (leb-true (batch s i) found.0 parts.0) (or_right (list_any (slot_completes s found.0) (reads_early s (session_slot s (suc i)))) (is_join s (session_slot s found.0) && sets_early s (session_slot s (suc i)))
          (and_from (is_join s (session_slot s found.0)) (sets_early s (session_slot s (suc i))) parts.1 both.1))
    ])
    (λ e. elim (waits_found s i stamps n are is e) [
      | inl read ↦ or_left (either_stamped one two stamps n) (has_join s i (suc i) && sets_early s (session_slot s (suc i))) (read_from s (suc i) one two stamps n read.0 reads read.1 read.2)
      | inr late ↦ or_right (either_stamped one two stamps n) (has_join s i (suc i) && sets_early s (session_slot s (suc i))) late
    ])
  where
    waits_at : (j : ℕ) → j < suc i → batch s i ≤ j → waits_for s (suc i) j ≡ true → waits s (batch s i) (suc i) ≡ true
    waits_at j l from e =
        some_at (suc i) (λ j. nat_le (batch s i) j && waits_for s (suc i) j) j l (and_from (nat_le (batch s i) j) (waits_for s (suc i) j) (le-leb (batch s i) j from) e)

-- a slot begins a batch exactly if it reads such a wire, or sets one before a join
pub batch_by_stamps : (s : Session) (k : ℕ) (one two : Option ℕ) (late : Bool) (scan : BatchScan) (b : Bool) → AreEarlyReads s k one two → IsBatchScan s (k - 1) k scan
    → late ≡ (scan.joins && sets_early s (session_slot s k))
    → b ≡ ((has_stamp one scan.stamps.items (scan.first + 1) || has_stamp two scan.stamps.items (scan.first + 1)) || late)
    → (b ≡ true → batch s k ≡ k) × (b ≡ false → batch s k ≡ batch s (k - 1))
batch_by_stamps s zero one two late scan b reads v join is = (λ e. refl, λ e. refl)
batch_by_stamps s (suc i) one two late scan b reads v join is =
    let before : suc i - 1 ≡ i = omega arith in
    let first : scan.first ≡ batch s i = v.first ∙ ap (batch s) before in
    let joins : scan.joins ≡ has_join s i (suc i) = v.joins ∙ ap (λ j. has_join s j (suc i)) before in
    let stamped = either_stamped one two scan.stamps.items (scan.first + 1) in
    let waits_is : b ≡ waits s (batch s i) (suc i) = is ∙ ap (λ l. stamped || l) (join ∙ ap (λ l. l && sets_early s (session_slot s (suc i))) joins)
    ∙ waits_by_stamps s i one two scan.stamps.items (scan.first + 1) reads v.stamps (omega arith) in
    (λ e. next_begins s i (sym waits_is ∙ e), λ e. next_joins s i (sym waits_is ∙ e) ∙ ap (batch s) (sym before))

-- so it is of the batch of the slot before it where none of those has the stamp
pub gate_goes_on : (s : Session) → s.prepared ≡ false → (k : ℕ) (g : Gate) (scan : BatchScan) → IsGateSlot s k g → IsBatchScan s (k - 1) k scan
    → (has_stamp (Some g.first) scan.stamps.items (scan.first + 1) || has_stamp (Some g.second) scan.stamps.items (scan.first + 1)) ≡ false → batch s k ≡ batch s (k - 1)
gate_goes_on s direct zero g scan slot v none = refl
gate_goes_on s direct (suc i) g scan slot v none =
    let before : suc i - 1 ≡ i = omega arith in
    let first : scan.first ≡ batch s i = v.first ∙ ap (batch s) before in
    let stamps = scan.stamps.items in
    let n = scan.first + 1 in
    next_joins s i (false_from_ne_true (waits s (batch s i) (suc i)) (λ e.
    let read = direct_read stamps n (waits_found s i stamps n v.stamps (omega (arith, first)) e) in
    let named = read_named g read.0 (sym (slot.reads read.0) ∙ sym (early_direct s direct (suc i) read.0) ∙ read.1) in
    both_ways (either_stamped (Some g.first) (Some g.second) stamps n) none (elim (or_cases (is_named (Some g.first) read.0) (is_named (Some g.second) read.0) named) [
      | inl one ↦ or_left (has_stamp (Some g.first) stamps n) (has_stamp (Some g.second) stamps n) (stamp_from (Some g.first) stamps n read.0 one read.2)
      | inr two ↦ or_right (has_stamp (Some g.first) stamps n) (has_stamp (Some g.second) stamps n) (stamp_from (Some g.second) stamps n read.0 two read.2)
    ])))
    ∙ ap (batch s) (sym before)
  where
    direct_read : (stamps : List ℕ) (n : ℕ) → ((w : ℕ) × (early s (suc i) w ≡ true) × (slice_index stamps w ≡ n)) ⊎ ((has_join s i (suc i) && sets_early s (session_slot s (suc i))) ≡ true)
        → (w : ℕ) × (early s (suc i) w ≡ true) × (slice_index stamps w ≡ n)
    direct_read stamps n (inl read) = read
    direct_read stamps n (inr late) = absurd (both_ways (has_join s i (suc i)) (none_join s direct i (suc i)) (and_parts (has_join s i (suc i)) (sets_early s (session_slot s (suc i))) late).0)

-- ---- one slot more

-- the ends of the batch that ends before slot k
ends_filled : (s : Session) (k : ℕ) (scan : BatchScan) (ends : List ℕ) → k ≤ session_slots s → (k < session_slots s → batch s k ≡ k) → IsBatchScan s (k - 1) k scan
    → ends ≡ scan.ends.items ++ replicate (k - length scan.ends.items) k → (length ends ≡ k) × ((j : ℕ) → j < k → IsBatch s (batch s j) (slice_index ends j))
ends_filled s k scan ends le begins v is =
    let old = scan.ends.items in
    let more = replicate (k - length old) k in
    let i = k - 1 in
    let within = batch_within s i in (
      omega (arith, ap length is, length-append old more, length-replicate {A = ℕ} (k - length old) k, v.ended, within),
      λ j l.
          elim (cases_lt j (length old)) [
            | inl less ↦ subst (λ (n : ℕ). IsBatch s (batch s j) n) (sym (ap (λ xs. slice_index xs j) is ∙ get_or-append old more 0 j less)) (v.ends j (omega (arith, less, v.ended)))
            | inr past ↦
                let here : slice_index ends j ≡ k = ap (λ xs. slice_index xs j) is ∙ get_or-append_right old more j 0 past ∙ get_or-replicate (k - length old) (j - length old) k 0 (omega arith) in
                let same : batch s j ≡ batch s i = same_batch s j i (omega (arith, v.ended)) (omega arith) in
                subst (λ (n : ℕ). IsBatch s (batch s j) n) (sym here) (record {
                  some = omega (arith, batch_within s j);
                  there = le;
                  whole = λ m from to. same_batch s m i (omega arith) (omega arith) ∙ sym same;
                  ends = begins;
                })
          ],
    )

-- slot k begins a batch
pub batch_begins : (s : Session) (k : ℕ) (old new : BatchScan) → k < session_slots s → batch s k ≡ k → IsBatchScan s (k - 1) k old → new.first ≡ k → new.stamps.items ≡ old.stamps.items
    → new.joins ≡ false → new.ends.items ≡ old.ends.items ++ replicate (k - length old.ends.items) k → IsBatchScan s k k new
batch_begins s k old new l begins v first stamps joins ends =
    let filled = ends_filled s k old new.ends.items (omega arith) (λ l. begins) v ends in
    record {
      first = first ∙ sym begins;
      wires = ap length stamps ∙ v.wires;
      stamps = λ w. ap (λ xs. slice_index xs w) stamps ∙ v.stamps w;
      joins = joins ∙ sym (false_from_ne_true (has_join s k k) (λ e.
          let found = some_found k (λ i. nat_le (batch s k) i && is_join s (session_slot s i)) e in
          let parts = and_parts (nat_le (batch s k) found.0) (is_join s (session_slot s found.0)) found.2 in
          absurd (omega (arith, found.1, begins, leb-true (batch s k) found.0 parts.0))));
      ended = filled.0 ∙ sym begins;
      ends = λ i l. filled.1 i (omega (arith, begins, l));
    }

-- or is of that of the slot before it
pub batch_goes_on : (s : Session) (k : ℕ) (scan : BatchScan) → batch s k ≡ batch s (k - 1) → IsBatchScan s (k - 1) k scan → IsBatchScan s k k scan
batch_goes_on s k scan same v = record {
  first = v.first ∙ sym same;
  wires = v.wires;
  stamps = v.stamps;
  joins = v.joins ∙ ap (λ a. some_below k (λ i. nat_le a i && is_join s (session_slot s i))) (sym same);
  ended = v.ended ∙ sym same;
  ends = λ i l. v.ends i (omega (arith, same, l));
}

-- what it completes gets the stamp of the batch, and it may join words itself
pub slot_done : (s : Session) (k : ℕ) (wire : Option ℕ) (join : Bool) (old new : BatchScan) → IsCompleted s k wire → join ≡ is_join s (session_slot s k) → IsBatchScan s k k old
    → new.first ≡ old.first → new.ends.items ≡ old.ends.items → length new.stamps.items ≡ length old.stamps.items
    → ((w : ℕ) → slice_index new.stamps.items w ≡ (if is_named wire w then old.first + 1 else slice_index old.stamps.items w))
    → new.joins ≡ (old.joins || join) → IsBatchScan s k (k + 1) new
slot_done s k wire join old new completed joined v first ends long stamps joins =
    let next : k + 1 ≡ suc k = omega arith in
    record {
      first = first ∙ v.first;
      wires = long ∙ v.wires;
      stamps = λ w.
          let now : stamp s (k + 1) w ≡ stamp s (suc k) w = ap (λ n. stamp s n w) next in
          elim (cases_Bool (is_named wire w)) [
            | inl here ↦
                let is : slice_index new.stamps.items w ≡ old.first + 1 = stamps w ∙ cond-true (is_named wire w) (old.first + 1) (slice_index old.stamps.items w) here in
                let last : stamp s (suc k) w ≡ suc (batch s k) = cond-true (slot_completes s k w) (suc (batch s k)) (stamp s k w) (completed.is w ∙ here) in
                omega (arith, is, last, now, v.first)
            | inr other ↦
                stamps w ∙ cond-false (is_named wire w) (old.first + 1) (slice_index old.stamps.items w) other ∙ v.stamps w
                ∙ sym (now ∙ cond-false (slot_completes s k w) (suc (batch s k)) (stamp s k w) (completed.is w ∙ other))
          ];
      joins =
          let here : (nat_le (batch s k) k && is_join s (session_slot s k)) ≡ join = ap (λ b. b && is_join s (session_slot s k)) (le-leb (batch s k) k (batch_within s k)) ∙ sym joined in
          joins ∙ ap (λ b. b || join) v.joins ∙ ap (λ b. has_join s k k || b) (sym here) ∙ ap (λ n. has_join s k n) (sym next);
      ended = ap length ends ∙ v.ended;
      ends = λ i l. subst (λ (xs : List ℕ). IsBatch s (batch s i) (slice_index xs i)) (sym ends) (v.ends i l);
    }

-- ---- the last slot

pub all_ends : (s : Session) (scan : BatchScan) (ends : List ℕ) → IsBatchScan s (session_slots s - 1) (session_slots s) scan
    → ends ≡ scan.ends.items ++ replicate (session_slots s - length scan.ends.items) (session_slots s) → AreBatchEnds s ends
all_ends s scan ends v is =
    let filled = ends_filled s (session_slots s) scan ends (omega arith) (λ l. absurd (omega arith)) v is in
    record { slots = filled.0; ends = filled.1 }

-- the same slots by other sums
pub same_slots : (s : Session) (i j k n : ℕ) (scan : BatchScan) → i ≡ j → k ≡ n → IsBatchScan s i k scan → IsBatchScan s j n scan
same_slots s i j k n scan a b v = subst (λ (z : ℕ). IsBatchScan s z n scan) a (subst (λ (z : ℕ). IsBatchScan s i z scan) b v)
