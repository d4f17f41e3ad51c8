-- The slots of a session as the program has it.
use Rattle.std.proofs.Common.{◌≡◌, ℕ, ◌+◌, ◌-◌, ◌<◌, ◌≤◌, true, false, ◌||◌, List, [], ◌∷◌, ◌++◌, length, take, length-append, inl, inr, Some, None, refl, sym, ap, ◌∙◌, subst, arith}
use Rattle.std.specs.Prelude.{map, nat_eq, slice_index_or, is_some, Option}
use Rattle.std.specs.List.{list_any}
use Rattle.std.proofs.lemmas.Bool.{cases_Bool, cond-true, cond-false, or_cases, or_left, eq-eqb, eqb-true, false≢true}
use Rattle.std.proofs.lemmas.List.{get_or_default, get_or-map, length-map, take_all, take-append-le, take-map}
use Rattle.list_laws.specs.Lists.{listed}
use Rattle.list_laws.proofs.JoinedLists.{length-listed}
use Rattle.list_laws.proofs.Tests.{or_false}
use Rattle.circuit_model.specs.declared.gate.Gate.{Gate}
use Rattle.session_slots.specs.declared.source.Source.TheVariants.{Given}
use Rattle.session_slots.specs.declared.touched.Touched.{Touched}
use Rattle.session_slots.specs.declared.values.KeptWire.{KeptWire}
use Rattle.session_slots.specs.declared.wiring.Wiring.{Wiring}
use Rattle.session_slots.specs.Sessions.{Session, Slot, gate, giver, no_gate, has_product, is_gate, output_wire, owners, readers, session_slot, session_slots, slot_list}
use Rattle.session_slots.specs.Sessions.Slot.{Input, At_gate, Output, Mask, Mask_product, Masked, Kept}
use Rattle.session_slots.specs.KeptWires.{reads_in, sets_in, slot_reads}
use Rattle.session_slots.specs.declared.slot_kind.SlotKind.{SlotKind}
use Rattle.session_slots.specs.SoundSessions.{IsWired, slot_of_kind}
use Rattle.session_slots.specs.Wirings.{AreReads, IsTouched, IsWiring, is_among, is_named, session_in, some_carried}
use Rattle.session_slots.proofs.SessionSlots.{direct_count, kept_last, own_slots, slot_gate, slot_input, slot_output, slot_cases}
use Rattle.session_slots.proofs.RowNames.{wires_named}
use Rattle.session_slots.proofs.ValueWires.{values_given}
use Rattle.session_slots.proofs.SlotReads.{gate_reads, reads_within, read_named}

-- the table of owners has one for each input wire
pub owners_count : (w : Wiring) → IsWiring w → length w.owners.items ≡ length (owners (session_in w))
owners_count w v = ap length v.owned ∙ length-map (owners (session_in w)) giver

pub wiring_count : (w : Wiring) → IsWiring w → w.prepared ≡ false → session_slots (session_in w) ≡ length w.owners.items + length w.gates.items + length w.readers.items + length w.kept.items
wiring_count w v direct = (let count = direct_count (session_in w) direct in omega (arith, count, owners_count w v, ap length v.read))

-- where no source is listed, a party gives each input wire
pub all_given : (w : Wiring) → IsWiring w → w.sources.items ≡ [] → owners (session_in w) ≡ map (λ (p : ℕ). Given p) w.owners.items
all_given w v none = elim (cases_Bool (some_carried w.inputs.items)) [
  | inr no' ↦ values_given w.inputs.items no' ∙ ap (map (λ (p : ℕ). Given p)) (sym v.owned)
  | inl yes' ↦
      let empty : owners (session_in w) ≡ [] = sym (cond-true (some_carried w.inputs.items) (owners (session_in w)) [] yes') ∙ sym v.sources ∙ none in
      empty ∙ sym (ap (λ xs. map (λ (p : ℕ). Given p) (map giver xs)) empty) ∙ ap (map (λ (p : ℕ). Given p)) (sym v.owned)
]

-- and where some are, each is
pub all_listed : (w : Wiring) → IsWiring w → (v : ℕ) → v < length w.sources.items → w.sources.items ≡ owners (session_in w)
all_listed w h v l = elim (cases_Bool (some_carried w.inputs.items)) [
  | inl yes' ↦ h.sources ∙ cond-true (some_carried w.inputs.items) (owners (session_in w)) [] yes'
  | inr no' ↦ absurd (let none = ap length (h.sources ∙ cond-false (some_carried w.inputs.items) (owners (session_in w)) [] no') in omega (arith, l, none))
]

-- the table of kinds has one for each slot
pub kinds_count : (w : Wiring) → IsWiring w → w.prepared ≡ true → length w.kinds.items ≡ session_slots (session_in w)
kinds_count w v e = sym (length-map w.kinds.items slot_of_kind) ∙ ap length (v.kinds e)

pub kind_listed : (w : Wiring) (k : ℕ) (found : SlotKind) → IsWiring w → w.prepared ≡ true → k < session_slots (session_in w) → found ≡ slice_index_or w.kinds.items k found
    → slot_of_kind found ≡ session_slot (session_in w) k
kind_listed w k found v e l is =
    let past = Output (length (readers (session_in w))) in
    ap slot_of_kind is ∙ sym (get_or-map slot_of_kind w.kinds.items k found past (omega (arith, l, kinds_count w v e))) ∙ ap (λ xs. slice_index_or xs k past) (v.kinds e)

-- and one for each wire that is kept, behind the others
pub kept_relisted : (w : Wiring) (kept : List KeptWire) (n : ℕ) → IsWiring w → w.prepared ≡ true → n + length w.kept.items ≡ length w.kinds.items
    → map slot_of_kind (take n w.kinds.items) ++ listed (length kept) (λ j. Kept j) ≡ slot_list (record (session_in w) { kept = kept })
kept_relisted w kept n v e long =
    let s = session_in w in
    let others = own_slots s in
    let behind = listed (length s.kept) (λ j. Kept j) in
    let same : n ≡ length others = omega (arith, long, kinds_count w v e, ap length (kept_last s), length-append others behind, length-listed (length s.kept) (λ j. Kept j)) in
    ap (λ xs. xs ++ listed (length kept) (λ j. Kept j)) (
    sym (take-map slot_of_kind n w.kinds.items) ∙ ap (take n) (v.kinds e ∙ kept_last s) ∙ ap (λ k. take k (others ++ behind)) same
    ∙ take-append-le (length others) others behind (omega arith) ∙ take_all (length others) others (omega arith)
    )
    ∙ sym (again s kept)
  where
    again : (s : Session) (kept : List KeptWire) → slot_list (record s { kept = kept }) ≡ own_slots s ++ listed (length kept) (λ j. Kept j)
    again s kept = kept_last (record s { kept = kept })

-- the wires in the fields of a gate are those of its slot
pub gate_is_touched : (s : Session) (n t : ℕ) (g : Gate) (touched : Touched) → IsWired s → s.prepared ≡ false → t < length s.gates → n ≡ length (owners s) → g ≡ slice_index_or s.gates t g
    → ((w : ℕ) → (nat_eq w g.output || false) ≡ is_named touched.sets w)
    → ((w : ℕ) → (nat_eq w g.first || nat_eq w g.second) ≡ (is_named touched.first w || is_named touched.second w))
    → ((w : ℕ) → is_named touched.first w ≡ true → is_named touched.second w ≡ false) → touched.third ≡ None → IsTouched s (n + t) touched
gate_is_touched s n t g touched wired direct l inputs is sets fields apart none =
    let own : gate s t ≡ g = get_or_default s.gates t no_gate g l ∙ sym is in
    record {
      sets = λ w.
          ap (λ (k : ℕ). list_any (nat_eq w) (sets_in s (session_slot s (k + t)))) inputs
          ∙ ap (λ (z : Slot). list_any (nat_eq w) (sets_in s z)) (slot_gate s direct t l)
          ∙ ap (λ (h : Gate). nat_eq w h.output || false) own
          ∙ sets w;
      reads = λ w e. or_left (is_named touched.first w || is_named touched.second w) (is_named touched.third w)
          (sym (fields w) ∙ read_named g w (sym (gate_reads s direct n t w g l inputs is) ∙ e));
      second = apart;
      third = λ w e. ap (λ o. is_named o w) none;
      within = λ w e. elim (or_cases (nat_eq w g.first) (nat_eq w g.second) (fields w ∙ sym (two w) ∙ e)) [
        | inl first ↦ omega (arith, eqb-true w g.first first, subst (λ (h : Gate). h.first < s.wires) own (wired.first t l), wires_named s)
        | inr second ↦ omega (arith, eqb-true w g.second second, subst (λ (h : Gate). h.second < s.wires) own (wired.second t l), wires_named s)
      ];
    }
  where
    two : (w : ℕ) → is_among touched.first touched.second touched.third w ≡ (is_named touched.first w || is_named touched.second w)
    two w = ap (λ o. is_among touched.first touched.second o w) none ∙ or_false (is_named touched.first w || is_named touched.second w)

-- the wires of a slot by its kind are its own
pub kind_is_touched : (s : Session) (k : ℕ) (z : Slot) (sets one two three : Option ℕ) (touched : Touched) → IsWired s → k < session_slots s → z ≡ session_slot s k
    → ((w : ℕ) → list_any (nat_eq w) (sets_in s z) ≡ is_named sets w) → AreReads s z one two three → touched.sets ≡ sets
    → ((w : ℕ) → is_among one two three w ≡ is_among touched.first touched.second touched.third w)
    → ((w : ℕ) → is_named touched.first w ≡ true → is_named touched.second w ≡ false)
    → ((w : ℕ) → (is_named touched.first w || is_named touched.second w) ≡ true → is_named touched.third w ≡ false) → IsTouched s k touched
kind_is_touched s k z sets one two three touched wired l at sets_are reads_are set reads second third =
    let are : (w : ℕ) → slot_reads s k w ≡ is_among touched.first touched.second touched.third w = λ w.
    ap (λ (y : Slot). list_any (nat_eq w) (reads_in s y)) (sym at) ∙ reads_are w ∙ reads w in
    record {
      sets = λ w. ap (λ (y : Slot). list_any (nat_eq w) (sets_in s y)) (sym at) ∙ sets_are w ∙ ap (λ o. is_named o w) (sym set);
      reads = λ w e. sym (are w) ∙ e;
      second = second;
      third = third;
      within = λ w e. reads_within s k w wired l (are w ∙ e);
    }

-- the slots of input wires and of output wires in a direct session
pub input_is_touched : (s : Session) (v : ℕ) (touched : Touched) → s.prepared ≡ false → v < length (owners s) → touched ≡ record { sets = Some v; first = None; second = None; third = None } → IsTouched s v touched
input_is_touched s v touched direct l is = subst (λ (t : Touched). IsTouched s v t) (sym is) (record {
  sets = λ w. ap (λ (z : Slot). list_any (nat_eq w) (sets_in s z)) (slot_input s direct v l) ∙ or_false (nat_eq w v);
  reads = λ w e. absurd (false≢true (sym (ap (λ (z : Slot). list_any (nat_eq w) (reads_in s z)) (slot_input s direct v l)) ∙ e));
  second = λ w e. refl;
  third = λ w e. refl;
  within = λ w e. absurd (false≢true e);
})

pub output_is_touched : (s : Session) (k o wire : ℕ) (touched : Touched) → IsWired s → s.prepared ≡ false → o < length (readers s) → k ≡ length (owners s) + length s.gates + o → wire ≡ output_wire s o
    → touched ≡ record { sets = None; first = Some wire; second = None; third = None } → IsTouched s k touched
output_is_touched s k o wire touched wired direct l at wire_is is =
    let slot : session_slot s k ≡ Output o = ap (session_slot s) at ∙ slot_output s direct o l in
    let reads : (w : ℕ) → slot_reads s k w ≡ (nat_eq w wire || false) = λ w.
    ap (λ (z : Slot). list_any (nat_eq w) (reads_in s z)) slot ∙ ap (λ (v : ℕ). nat_eq w v || false) (sym wire_is) in
    subst (λ (t : Touched). IsTouched s k t) (sym is) (record {
      sets = λ w. ap (λ (z : Slot). list_any (nat_eq w) (sets_in s z)) slot;
      reads = λ w e. or_left (nat_eq w wire || false) false (sym (reads w) ∙ e);
      second = λ w e. refl;
      third = λ w e. refl;
      within = λ w e. reads_within s k w wired (omega (arith, at, l, direct_count s direct)) (reads w ∙ sym (or_false (nat_eq w wire || false)) ∙ e);
    })

-- a slot sets a wire exactly if there is one that it sets
pub some_set : (xs : List ℕ) (wire : Option ℕ) → ((w : ℕ) → list_any (nat_eq w) xs ≡ is_named wire w) → is_some wire ≡ list_any (λ w. true) xs
some_set [] None h = refl
some_set [] (Some v) h = absurd (false≢true (h v ∙ eq-eqb v v refl))
some_set (x ∷ xs) None h = absurd (false≢true (sym (h x) ∙ or_left (nat_eq x x) (list_any (nat_eq x) xs) (eq-eqb x x refl)))
some_set (x ∷ xs) (Some v) h = refl

-- a direct session's products stand behind the input wires
pub direct_product : (s : Session) → s.prepared ≡ false → (k : ℕ) → k < session_slots s → has_product (session_slot s k) ≡ true
    → (length (owners s) ≤ k) × (k - length (owners s) < length s.gates) × (session_slot s k ≡ At_gate (k - length (owners s)))
direct_product s direct = slot_cases s direct (λ k z. has_product z ≡ true → (length (owners s) ≤ k) × (k - length (owners s) < length s.gates) × (z ≡ At_gate (k - length (owners s))))
    (λ v l e. absurd (false≢true e))
    (λ t l e. (omega arith, omega (arith, l), ap (λ n. At_gate n) (omega arith)))
    (λ o l e. absurd (false≢true e))
    (λ j l e. absurd (false≢true e))

pub gate_has : (z : Slot) → is_gate z ≡ true → has_product z ≡ true
gate_has (At_gate t) e = refl
gate_has (Input v) e = absurd (false≢true e)
gate_has (Output o) e = absurd (false≢true e)
gate_has (Mask t side) e = absurd (false≢true e)
gate_has (Mask_product t) e = absurd (false≢true e)
gate_has (Masked t side) e = absurd (false≢true e)
gate_has (Kept j) e = absurd (false≢true e)
