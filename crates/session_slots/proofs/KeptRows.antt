-- Which wires are kept, told by the slots that set and read them; and the rows of wires that are kept together.
use Rattle.std.proofs.Common.{◌≡◌, ℕ, zero, suc, ◌<◌, ◌≤◌, Bool, true, false, ◌&&◌, ◌||◌, inl, inr, sym, ◌∙◌, subst, arith}
use Rattle.std.specs.Prelude.{nat_eq, nat_le}
use Rattle.std.specs.List.{list_any}
use Rattle.std.proofs.lemmas.Bool.{cases_order, or_cases, or_left, or_right, and_parts, and_from, leb-true, le-leb, eqb-true, false≢true}
use Rattle.list_laws.specs.Lists.{some_below}
use Rattle.session_slots.specs.Sessions.{Session, Slot, gate, mask_wire, product_wire, session_slot, session_slots}
use Rattle.session_slots.specs.Sessions.Slot.{Input, At_gate, Output, Mask, Mask_product, Masked, Kept}
use Rattle.session_slots.specs.KeptWires.{sets_in, slot_sets, slot_reads, is_kept, KeptApart}

-- ---- some number below n

pub some_found : (n : ℕ) (f : ℕ → Bool) → some_below n f ≡ true → (i : ℕ) × (i < n) × (f i ≡ true)
some_found zero f e = absurd (false≢true e)
some_found (suc n) f e =
    elim (or_cases (some_below n f) (f n) e) [
      | inl less ↦ (let found = some_found n f less in (found.0, omega (arith, found.1), found.2))
      | inr here ↦ (n, omega arith, here)
    ]

pub some_at : (n : ℕ) (f : ℕ → Bool) (i : ℕ) → i < n → f i ≡ true → some_below n f ≡ true
some_at zero f i l e = absurd (omega (arith, l))
some_at (suc n) f i l e =
    elim (cases_order i n) [
      | inl same ↦ or_right (some_below n f) (f n) (subst (λ k. f k ≡ true) same e)
      | inr (inl less) ↦ or_left (some_below n f) (f n) (some_at n f i less e)
      | inr (inr more) ↦ absurd (omega (arith, l, more))
    ]

-- ---- wires that are kept

pub kept_found : (s : Session) (k w : ℕ) → is_kept s k w ≡ true
    → ((j : ℕ) × (j < k) × (slot_sets s j w ≡ true)) × ((m : ℕ) × (k ≤ m) × (m < session_slots s) × (slot_reads s m w ≡ true))
unfolding is_kept
kept_found s k w e =
    let parts = and_parts (some_below k (λ j. slot_sets s j w)) (some_below (session_slots s) (λ m. nat_le k m && slot_reads s m w)) e in
    let later = some_found (session_slots s) (λ m. nat_le k m && slot_reads s m w) parts.1 in
    let read = and_parts (nat_le k later.0) (slot_reads s later.0 w) later.2 in
    (some_found k (λ j. slot_sets s j w) parts.0, (later.0, leb-true k later.0 read.0, later.1, read.1))

pub kept_from : (s : Session) (j k m w : ℕ) → j < k → k ≤ m → m < session_slots s → slot_sets s j w ≡ true → slot_reads s m w ≡ true → is_kept s k w ≡ true
unfolding is_kept
kept_from s j k m w before after within set read =
    and_from (some_below k (λ j. slot_sets s j w)) (some_below (session_slots s) (λ m. nat_le k m && slot_reads s m w))
    (some_at k (λ j. slot_sets s j w) j before set)
    (some_at (session_slots s) (λ m. nat_le k m && slot_reads s m w) m within (and_from (nat_le k m) (slot_reads s m w) (le-leb k m after) read))

pub one_wire : (u v : ℕ) → (nat_eq v u || false) ≡ true → v ≡ u
one_wire u v e = elim (or_cases (nat_eq v u) false e) [ inl same ↦ eqb-true v u same | inr not' ↦ absurd (false≢true not') ]

-- a slot sets one wire at most
slot_sets_one : (s : Session) (z : Slot) (v w : ℕ) → list_any (nat_eq v) (sets_in s z) ≡ true → list_any (nat_eq w) (sets_in s z) ≡ true → v ≡ w
slot_sets_one s (Input u) v w a b = one_wire u v a ∙ sym (one_wire u w b)
slot_sets_one s (At_gate t) v w a b = one_wire (gate s t).output v a ∙ sym (one_wire (gate s t).output w b)
slot_sets_one s (Output o) v w a b = absurd (false≢true a)
slot_sets_one s (Mask t side) v w a b = one_wire (mask_wire s t side) v a ∙ sym (one_wire (mask_wire s t side) w b)
slot_sets_one s (Mask_product t) v w a b = one_wire (product_wire s t) v a ∙ sym (one_wire (product_wire s t) w b)
slot_sets_one s (Masked t side) v w a b = absurd (false≢true a)
slot_sets_one s (Kept j) v w a b = absurd (false≢true a)

pub sets_one : (s : Session) (k v w : ℕ) → slot_sets s k v ≡ true → slot_sets s k w ≡ true → v ≡ w
sets_one s k v w = slot_sets_one s (session_slot s k) v w

-- ---- rows

pub kept_apart : KeptApart
kept_apart s rows k v w table kept_v kept_w different =
    let a = kept_found s k v kept_v in
    let b = kept_found s k w kept_w in
    elim (cases_order a.0.0 b.0.0) [
      | inl same ↦ absurd (different (sets_one s b.0.0 v w (subst (λ j. slot_sets s j v ≡ true) same a.0.2) b.0.2))
      | inr (inl less) ↦ table.apart a.0.0 b.0.0 a.1.0 v w less (omega (arith, b.0.1, a.1.1)) a.1.2 a.0.2 a.1.3 b.0.2
      | inr (inr more) ↦ (λ e. table.apart b.0.0 a.0.0 b.1.0 w v more (omega (arith, a.0.1, b.1.1)) b.1.2 b.0.2 b.1.3 a.0.2 (sym e))
    ]
