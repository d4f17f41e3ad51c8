-- Where gates stand by layers, each batch begins in a later layer than the one before it.
use Rattle.std.proofs.Common.{◌≡◌, ℕ, zero, suc, ◌+◌, ◌-◌, ◌*◌, ◌/◌, ◌<◌, ◌≤◌, ◌⊎◌, Bool, true, false, not, ◌&&◌, ◌||◌, nat_eq, nat_le, min, if◌then◌else◌, List, [], ◌∷◌, length, inl, inr, refl, sym, ap, ◌∙◌, arith}
use Rattle.std.specs.List.{list_any}
use Rattle.std.proofs.lemmas.Bool.{cases_Bool, cases_lt, cond-true, cond-false, cond_both, and_parts, eq-eqb, eqb-true, le-leb, leb-true, lt-leb, or_cases, or_left, false≢true}
use Rattle.std.proofs.Math.Nat.{le-min, min-le_left, min-le_right}
use Rattle.list_laws.specs.Lists.{only_if, total}
use Rattle.list_laws.proofs.Greatest.{greatest_at}
use Rattle.circuit_model.specs.Circuits.{is_product}
use Rattle.circuit_model.specs.Netlists.{read_by}
use Rattle.session_slots.specs.declared.side.Side.{Side}
use Rattle.session_slots.specs.declared.side.Side.TheVariants.{First, Second}
use Rattle.session_slots.specs.Sessions.{Session, Slot, gate, is_prepared, mask_wire, operand, product_wire, session_slot, session_slots}
use Rattle.session_slots.specs.Sessions.Slot.{Input, At_gate, Output, Mask, Mask_product, Masked, Kept}
use Rattle.session_slots.specs.SlotNumbers.{first_of_gate, first_of_masks, mask_product_number, prepared_before, session_slot_number}
use Rattle.session_slots.specs.SoundSessions.{IsWired, Inside}
use Rattle.session_slots.specs.Counts.{prepared_products, products}
use Rattle.session_slots.specs.KeptWires.{sets_in, slot_sets}
use Rattle.job_session.specs.Batches.{batch, batches, waits_for}
use Rattle.session_slots.specs.EarlyWires.{completes, is_join, reads_early, sets_early, slot_completes}
use Rattle.session_slots.proofs.SessionSlots.{all_prepared, gate_rises, masks_before_product, more_before, none_before, none_prepared, number_within, one_more, product_before_inputs, slot_kinds, slot_there, slots_are_numbered}
use Rattle.job_session.proofs.BatchOrder.{batch_within, begins_waiting, rising}
use Rattle.session_slots.proofs.GateOrder.{operand_read}
use Rattle.session_slots.proofs.KeptRows.{one_wire}
use Rattle.layer_order.specs.Depths.{most}
use Rattle.layer_order.proofs.WireDepths.{most_at}
use Rattle.layer_laws.specs.Layers.{preparing_batches, product, products_to, layer, depth, JoinsLast, StandsByLayers}

-- one of a list passes both tests
any_both : (f : ℕ → Bool) (vs : List ℕ) → list_any f vs ≡ true → (v : ℕ) × (list_any (nat_eq v) vs ≡ true) × (f v ≡ true)
any_both f [] e = absurd (false≢true e)
any_both f (v ∷ vs) e = elim (or_cases (f v) (list_any f vs) e) [
  | inl here ↦ (v, or_left (nat_eq v v) (list_any (nat_eq v) vs) (eq-eqb v v refl), here)
  | inr rest ↦ let found = any_both f vs rest in (found.0, or_later (nat_eq found.0 v) (list_any (nat_eq found.0) vs) found.1, found.2)
]
  where
    or_later : (a b : Bool) → b ≡ true → (a || b) ≡ true
    or_later true b e = refl
    or_later false b e = e

abbrev side_place : Side → ℕ
side_place First = 0
side_place Second = 1

one_wire_of : (a b w : ℕ) → (nat_eq w a || (nat_eq w b || false)) ≡ true → (w ≡ a) ⊎ (w ≡ b)
one_wire_of a b w e = elim (or_cases (nat_eq w a) (nat_eq w b || false) e) [ inl first ↦ inl (eqb-true w a first) | inr second ↦ inr (one_wire b w second) ]

two_ones : (b : Bool) → (if b then 2 else 0) ≡ 2 * (if b then 1 else 0)
two_ones true = refl
two_ones false = refl

not_false : (b : Bool) → not b ≡ true → b ≡ false
not_false true e = sym e
not_false false e = refl

module _ (s : Session) (wired : IsWired s) (by_layers : StandsByLayers s) (joins_last : JoinsLast s) where
  abbrev count : ℕ
  count = length s.gates

  -- how many products are prepared
  abbrev all : ℕ
  all = prepared_before s count

  -- the layer of the masks of a product, and how many layers stand before that of the inputs: in turn one for each product,
  -- and ahead one of all masks
  abbrev mask_rank : ℕ → ℕ
  mask_rank t = if s.ahead then 0 else prepared_before s t

  abbrev prior : ℕ
  prior = if s.ahead then min 1 all else all

  -- the layer of a slot: what is prepared comes first, then the inputs, the gates and the outputs
  abbrev rank_of : Slot → ℕ
  rank_of (Mask t side) = mask_rank t
  rank_of (Mask_product t) = suc (mask_rank t)
  rank_of (Input v) = prior
  rank_of (Masked t side) = suc (prior + layer s t)
  rank_of (At_gate t) = suc (prior + layer s t)
  rank_of (Output o) = suc (prior + depth s)
  rank_of (Kept o) = suc (prior + depth s)

  abbrev rank : ℕ → ℕ
  rank k = rank_of (session_slot s k)

  within_depth : (t : ℕ) → t < count → layer s t + product s t ≤ depth s
  within_depth t l = greatest_at count (λ i. layer s i + product s i) t l

  one_product : (t : ℕ) → is_product (gate s t).operation ≡ true → ◌≡◌ {A = ℕ} (product s t) 1
  one_product t e = cond-true (is_product (gate s t).operation) 1 0 e

  mask_is : (t : ℕ) (side : Side) → (mask_wire s t side ≡ s.wires + 3 * t + side_place side) × (side_place side < 2)
  mask_is t First = (omega arith, omega arith)
  mask_is t Second = (omega arith, omega arith)

  before_all : (t : ℕ) → t < count → is_prepared s t ≡ true → prepared_before s t < all
  before_all t l e = (let more = more_before s t count l in let one = one_more s t e in omega (arith, more, one))

  before_prior : (t : ℕ) → t < count → is_prepared s t ≡ true → mask_rank t < prior
  before_prior t l e = by_order s.ahead
    where
      by_order : (early : Bool) → (if early then 0 else prepared_before s t) < (if early then min 1 all else all)
      by_order true = le-min {k = 1} {a = 1} {b = all} (omega arith) (let less = before_all t l e in omega (arith, less))
      by_order false = before_all t l e

  -- all that is prepared stands before the inputs
  prepared_early : (t : ℕ) → t < count → is_prepared s t ≡ true → (first_of_masks s t + 1 < 3 * all) × (mask_product_number s t < 3 * all)
  prepared_early t l e = (let masks = masks_before_product s t l e in let product = product_before_inputs s t l e in (omega (arith, masks, product), product))

  -- ---- ranks rise

  -- the layer of a slot of masks by its number, where masks come ahead or not
  abbrev rank_at : Bool → ℕ → ℕ
  rank_at true n = if nat_le (2 * all) n then 1 else 0
  rank_at false n = (n + 1) / 3

  rank_rises : (early : Bool) (n m : ℕ) → n ≤ m → rank_at early n ≤ rank_at early m
  rank_rises true n m le = elim (cases_Bool (nat_le (2 * all) n)) [
    | inl from ↦
        let later = cond-true {A = ℕ} (nat_le (2 * all) m) 1 0 (le-leb (2 * all) m (let less = leb-true (2 * all) n from in omega (arith, less, le))) in
        let one = cond-true {A = ℕ} (nat_le (2 * all) n) 1 0 from in
        omega (arith, later, one)
    | inr to ↦ (let none = cond-false {A = ℕ} (nat_le (2 * all) n) 1 0 to in omega (arith, none))
  ]
  rank_rises false n m le = omega (arith, le)

  rank_within : (early : Bool) (n : ℕ) → n < 3 * all → rank_at early n ≤ (if early then min 1 all else all)
  rank_within true n l =
      let some = le-min {k = 1} {a = 1} {b = all} (omega arith) (omega (arith, l)) in
      cond_both (nat_le (2 * all) n) 1 0 (λ r. r ≤ min 1 all) (λ e. some) (λ e. omega arith)
  rank_within false n l = omega (arith, l)

  mask_rank_at : (t n place : ℕ) → t < count → is_prepared s t ≡ true → place < 2 → n ≡ first_of_masks s t + place → mask_rank t ≡ rank_at s.ahead n
  mask_rank_at t n place l e few = by_order s.ahead
    where
      by_order : (early : Bool) → n ≡ (if early then 2 * prepared_before s t else 3 * prepared_before s t) + place → (if early then 0 else prepared_before s t) ≡ rank_at early n
      by_order true is = sym (cond-false {A = ℕ} (nat_le (2 * all) n) 1 0 (lt-leb (2 * all) n (let less = before_all t l e in omega (arith, less, is, few))))
      by_order false is = omega (arith, is, few)

  product_rank_at : (t : ℕ) → suc (mask_rank t) ≡ rank_at s.ahead (mask_product_number s t)
  product_rank_at t = by_order s.ahead
    where
      by_order : (early : Bool) → suc (if early then 0 else prepared_before s t) ≡ rank_at early (if early then 2 * all + prepared_before s t else 3 * prepared_before s t + 2)
      by_order true = sym (cond-true {A = ℕ} (nat_le (2 * all) (2 * all + prepared_before s t)) 1 0 (le-leb (2 * all) (2 * all + prepared_before s t) (omega arith)))
      by_order false = omega arith

  -- a slot of masks has such a number and rank
  abbrev IsOfMask : ℕ → ℕ → Type 0
  IsOfMask n r = (n < 3 * all) × (r ≡ rank_at s.ahead n)

  -- one of a gate
  record IsOfGate (n r : ℕ) : Type 0 where
    gate_of : ℕ
    there : gate_of < count
    from : first_of_gate s gate_of ≤ n
    to : n ≤ first_of_gate s gate_of + 2 * (if is_prepared s gate_of then 1 else 0)
    is : r ≡ suc (prior + layer s gate_of)

  -- an input slot, and an output slot
  abbrev IsOfInput : ℕ → ℕ → Type 0
  IsOfInput n r = (3 * all ≤ n) × (n < first_of_gate s 0) × (r ≡ prior)

  abbrev IsOfOutput : ℕ → ℕ → Type 0
  IsOfOutput n r = (first_of_gate s count ≤ n) × (r ≡ suc (prior + depth s))

  abbrev Stands : ℕ → ℕ → Type 0
  Stands n r = (IsOfMask n r ⊎ IsOfInput n r) ⊎ (IsOfGate n r ⊎ IsOfOutput n r)

  stands : (z : Slot) → Inside s z → Stands (session_slot_number s z) (rank_of z)
  stands (Mask t First) i = inl (inl (let early = prepared_early t i.0 i.1 in omega (arith, early.0), mask_rank_at t (first_of_masks s t) 0 i.0 i.1 (omega arith) (omega arith)))
  stands (Mask t Second) i = inl (inl ((prepared_early t i.0 i.1).0, mask_rank_at t (first_of_masks s t + 1) 1 i.0 i.1 (omega arith) refl))
  stands (Mask_product t) i = inl (inl ((prepared_early t i.0 i.1).1, product_rank_at t))
  stands (Input v) l = inl (inr (omega arith, omega (arith, l), refl))
  stands (Masked t First) i = inr (inl (record { gate_of = t; there = i.0; from = omega arith; to = omega arith; is = refl }))
  stands (Masked t Second) i = inr (inl (record { gate_of = t; there = i.0; from = omega arith; to = (let one = one_more s t i.1 in omega (arith, one)); is = refl }))
  stands (At_gate t) l = inr (inl (record { gate_of = t; there = l; from = omega arith; to = (let two = two_ones (is_prepared s t) in omega (arith, two)); is = refl }))
  stands (Output o) l = inr (inr (omega arith, refl))
  stands (Kept o) l = inr (inr (omega arith, refl))

  rise : (n m r q : ℕ) → Stands n r → Stands m q → n ≤ m → r ≤ q
  rise n m r q (inl (inl a)) (inl (inl b)) le = (let rises = rank_rises s.ahead n m le in omega (arith, a.1, b.1, rises))
  rise n m r q (inl (inl a)) (inl (inr b)) le = (let within = rank_within s.ahead n a.0 in omega (arith, within, a.1, b.2))
  rise n m r q (inl (inl a)) (inr (inl b)) le = (let within = rank_within s.ahead n a.0 in omega (arith, within, a.1, b.is))
  rise n m r q (inl (inl a)) (inr (inr b)) le = (let within = rank_within s.ahead n a.0 in omega (arith, within, a.1, b.1))
  rise n m r q (inl (inr a)) (inl (inl b)) le = absurd (omega (arith, le, a.0, b.0))
  rise n m r q (inl (inr a)) (inl (inr b)) le = omega (arith, a.2, b.2)
  rise n m r q (inl (inr a)) (inr (inl b)) le = omega (arith, a.2, b.is)
  rise n m r q (inl (inr a)) (inr (inr b)) le = omega (arith, a.2, b.1)
  rise n m r q (inr (inl a)) (inl (inl b)) le = absurd (omega (arith, le, a.from, b.0))
  rise n m r q (inr (inl a)) (inl (inr b)) le = absurd (omega (arith, le, a.from, b.1))
  rise n m r q (inr (inl a)) (inr (inl b)) le = elim (cases_lt b.gate_of a.gate_of) [
    | inl back ↦ absurd (let more = more_before s b.gate_of a.gate_of back in omega (arith, le, a.from, b.to, more, back))
    | inr on ↦ let later = by_layers a.gate_of b.gate_of on b.there in omega (arith, a.is, b.is, later)
  ]
  rise n m r q (inr (inl a)) (inr (inr b)) le = (let deep = within_depth a.gate_of a.there in omega (arith, a.is, b.1, deep))
  rise n m r q (inr (inr a)) (inl (inl b)) le = absurd (omega (arith, le, a.0, b.0))
  rise n m r q (inr (inr a)) (inl (inr b)) le = absurd (omega (arith, le, a.0, b.1))
  rise n m r q (inr (inr a)) (inr (inl b)) le = absurd (let more = more_before s b.gate_of count b.there in omega (arith, le, a.0, b.to, more, b.there))
  rise n m r q (inr (inr a)) (inr (inr b)) le = omega (arith, a.1, b.1)

  stands_at : (k : ℕ) → k < session_slots s → Stands k (rank k)
  stands_at = slot_kinds s (λ k z. Stands k (rank_of z)) stands

  ranks_rise : (j k : ℕ) → j ≤ k → k < session_slots s → rank j ≤ rank k
  ranks_rise j k le lk = rise j k (rank j) (rank k) (stands_at j (omega (arith, le, lk))) (stands_at k lk) le

  rank_most : (k : ℕ) → k < session_slots s → rank k ≤ suc (prior + depth s)
  rank_most k l = most_of (stands_at k l)
    where
      most_of : {n r : ℕ} → Stands n r → r ≤ suc (prior + depth s)
      most_of {n = n} (inl (inl a)) = (let within = rank_within s.ahead n a.0 in omega (arith, within, a.1))
      most_of (inl (inr a)) = omega (arith, a.2)
      most_of (inr (inl a)) = (let deep = within_depth a.gate_of a.there in omega (arith, a.is, deep))
      most_of (inr (inr a)) = omega (arith, a.1)

  -- ---- a slot that waits for another is of a later layer

  gate_sets : (t : ℕ) → t < count → slot_sets s (session_slot_number s (At_gate t)) (gate s t).output ≡ true
  gate_sets t l = ap (λ z. list_any (nat_eq (gate s t).output) (sets_in s z)) (slot_there s (At_gate t) l) ∙ or_left (nat_eq (gate s t).output (gate s t).output) false (eq-eqb (gate s t).output (gate s t).output refl)

  -- a wire keeps the products that stand before it, as no later gate sets it
  kept : (u n : ℕ) → u < count → u + suc n ≤ count → products_to s (u + suc n) (gate s u).output ≡ layer s u + product s u
  kept u zero lu l =
      let next : u + 1 ≡ suc u = omega arith in
      ap (λ z. products_to s z (gate s u).output) next ∙ cond-true (nat_eq (gate s u).output (gate s u).output) (layer s u + product s u) (products_to s u (gate s u).output) (eq-eqb (gate s u).output (gate s u).output refl)
  kept u (suc n) lu l =
      let t : ℕ = u + suc n in
      let lt : t < count = omega (arith, l) in
      let next : u + suc (suc n) ≡ suc t = omega arith in
      let v : ℕ = (gate s u).output in
      let before = gate_rises s u t (omega arith) in
      let not_there : slot_sets s (session_slot_number s (At_gate t)) v ≡ false =
      wired.order.once (session_slot_number s (At_gate u)) (session_slot_number s (At_gate t)) v (omega (arith, before)) (number_within s (At_gate t) lt) (gate_sets u lu) in
      let other : nat_eq v (gate s t).output ≡ false = one_false (nat_eq v (gate s t).output) (sym (ap (λ z. list_any (nat_eq v) (sets_in s z)) (slot_there s (At_gate t) lt)) ∙ not_there) in
      ap (λ z. products_to s z v) next ∙ cond-false (nat_eq v (gate s t).output) (layer s t + product s t) (products_to s t v) other ∙ kept u n lu (omega (arith, l))
    where
      one_false : (a : Bool) → (a || false) ≡ false → a ≡ false
      one_false true e = e
      one_false false e = refl

  -- a gate that reads what a product sets is of a later layer
  reading_rises : (u t w : ℕ) → u < t → t < count → is_product (gate s u).operation ≡ true → w ≡ (gate s u).output → list_any (nat_eq w) (read_by (gate s t)) ≡ true → layer s u < layer s t
  reading_rises u t w before lt multiplies its read =
      let more = most_at (products_to s t) (read_by (gate s t)) w read in
      let there : u + suc (t - suc u) ≡ t = omega (arith, before) in
      let stays = kept u (t - suc u) (omega (arith, before, lt)) (omega (arith, there, lt)) in
      let same : products_to s t w ≡ layer s u + product s u = ap (products_to s t) its ∙ sym (ap (λ z. products_to s z (gate s u).output) there) ∙ stays in
      omega (arith, more, same, one_product u multiplies)

  -- by their numbers
  masked_most : (t : ℕ) (side : Side) → is_prepared s t ≡ true → session_slot_number s (Masked t side) ≤ session_slot_number s (At_gate t)
  masked_most t First e = omega arith
  masked_most t Second e = (let two : ◌≡◌ {A = ℕ} (if is_prepared s t then 2 else 0) 2 = cond-true (is_prepared s t) 2 0 e in omega (arith, two))

  gate_before : (u t n : ℕ) → n ≤ session_slot_number s (At_gate t) → session_slot_number s (At_gate u) < n → u < t
  gate_before u t n most before = elim (cases_lt u t) [
    | inl l ↦ l
    | inr past ↦ elim (cases_lt t u) [
      | inl back ↦ absurd (let rises = gate_rises s t u back in omega (arith, rises, most, before))
      | inr same ↦ absurd (let e : u ≡ t = omega (arith, past, same) in let at = ap (λ g. session_slot_number s (At_gate g)) e in omega (arith, at, most, before))
    ]
  ]

  -- a gate whose product is prepared reads nothing early
  gate_early : (t w : ℕ) → list_any (nat_eq w) (reads_early s (At_gate t)) ≡ true → list_any (nat_eq w) (read_by (gate s t)) ≡ true
  gate_early t w e = go (is_prepared s t) e
    where
      go : (b : Bool) → list_any (nat_eq w) (only_if (not b) (if b then mask_wire s t First ∷ mask_wire s t Second ∷ product_wire s t ∷ [] else read_by (gate s t))) ≡ true → list_any (nat_eq w) (read_by (gate s t)) ≡ true
      go true e = absurd (false≢true e)
      go false e = e

  gate_completes : (u w : ℕ) → list_any (nat_eq w) (completes s (At_gate u)) ≡ true → (is_product (gate s u).operation ≡ true) × (w ≡ (gate s u).output)
  gate_completes u w e = go (is_product (gate s u).operation) e
    where
      go : (b : Bool) → list_any (nat_eq w) (only_if b ((gate s u).output ∷ [])) ≡ true → (b ≡ true) × (w ≡ (gate s u).output)
      go true e = (refl, one_wire (gate s u).output w e)
      go false e = absurd (false≢true e)

  -- the wires of a product of masks are behind those of the circuit
  masks_read : (t w : ℕ) → list_any (nat_eq w) (reads_early s (Mask_product t)) ≡ true → (place : ℕ) × (place < 2) × (w ≡ s.wires + 3 * t + place)
  masks_read t w e = elim (one_wire_of (mask_wire s t First) (mask_wire s t Second) w e) [
    | inl first ↦ (0, omega arith, omega (arith, first))
    | inr second ↦ (1, omega arith, omega (arith, second))
  ]

  reads_rise : (y z : Slot) (w : ℕ) → Inside s y → Inside s z → session_slot_number s y < session_slot_number s z → list_any (nat_eq w) (completes s y) ≡ true → list_any (nat_eq w) (reads_early s z) ≡ true → rank_of y < rank_of z
  reads_rise y (Input v) w i j b c r = absurd (false≢true r)
  reads_rise y (Mask t side) w i j b c r = absurd (false≢true r)
  reads_rise (Output o) z w i j b c r = absurd (false≢true c)
  reads_rise (Kept o) z w i j b c r = absurd (false≢true c)
  reads_rise (Masked u side) z w i j b c r = absurd (false≢true c)
  reads_rise (Input v) (Mask_product t) w i j b c r = absurd (let is = one_wire v w c in let mask = masks_read t w r in omega (arith, is, mask.2, i, wired.input_wires))
  reads_rise (Input v) (Masked t side) w i j b c r = omega arith
  reads_rise (Input v) (At_gate t) w i j b c r = omega arith
  reads_rise (Input v) (Output o) w i j b c r = omega arith
  reads_rise (Input v) (Kept o) w i j b c r = omega arith
  reads_rise (Mask u side) (Mask_product t) w i j b c r =
      let is = one_wire (mask_wire s u side) w c in
      let mask = masks_read t w r in
      let place = mask_is u side in
      let same : u ≡ t = omega (arith, is, mask.1, mask.2, place.0, place.1) in
      let at = ap mask_rank same in
      omega (arith, at)
  reads_rise (Mask u side) (Masked t _) w i j b c r = (let less = before_prior u i.0 i.1 in omega (arith, less))
  reads_rise (Mask u side) (At_gate t) w i j b c r = (let less = before_prior u i.0 i.1 in omega (arith, less))
  reads_rise (Mask u side) (Output o) w i j b c r = (let less = before_prior u i.0 i.1 in omega (arith, less))
  reads_rise (Mask u side) (Kept o) w i j b c r = (let less = before_prior u i.0 i.1 in omega (arith, less))
  reads_rise (Mask_product u) (Mask_product t) w i j b c r = absurd (let is = one_wire (product_wire s u) w c in let mask = masks_read t w r in omega (arith, is, mask.1, mask.2))
  reads_rise (Mask_product u) (Masked t side) w i j b c r = (let less = before_prior u i.0 i.1 in omega (arith, less))
  reads_rise (Mask_product u) (At_gate t) w i j b c r = (let less = before_prior u i.0 i.1 in omega (arith, less))
  reads_rise (Mask_product u) (Output o) w i j b c r = (let less = before_prior u i.0 i.1 in omega (arith, less))
  reads_rise (Mask_product u) (Kept o) w i j b c r = (let less = before_prior u i.0 i.1 in omega (arith, less))
  reads_rise (At_gate u) (Mask_product t) w i j b c r = absurd (let made = gate_completes u w c in let mask = masks_read t w r in omega (arith, made.1, mask.2, wired.output u i))
  reads_rise (At_gate u) (Masked t side) w i j b c r =
      let made = gate_completes u w c in
      elim (one_wire_of (operand (gate s t) side) (mask_wire s t side) w r) [
        | inl wire ↦
            let read : list_any (nat_eq w) (read_by (gate s t)) ≡ true =
            ap (λ v. list_any (nat_eq v) (read_by (gate s t))) wire ∙ operand_read (gate s t) side (and_parts s.prepared (is_product (gate s t).operation) j.1).1 in
            let later = reading_rises u t w (gate_before u t (session_slot_number s (Masked t side)) (masked_most t side j.1) b) j.0 made.0 made.1 read in
            omega (arith, later)
        | inr mask ↦ absurd (let place = mask_is t side in omega (arith, made.1, mask, place.0, wired.output u i))
      ]
  reads_rise (At_gate u) (At_gate t) w i j b c r =
      let made = gate_completes u w c in
      let later = reading_rises u t w (gate_before u t (session_slot_number s (At_gate t)) (omega arith) b) j made.0 made.1 (gate_early t w r) in
      omega (arith, later)
  reads_rise (At_gate u) (Output o) w i j b c r =
      let made = gate_completes u w c in
      let deep = within_depth u i in
      omega (arith, deep, one_product u made.0)
  reads_rise (At_gate u) (Kept o) w i j b c r =
      let made = gate_completes u w c in
      let deep = within_depth u i in
      omega (arith, deep, one_product u made.0)

  join_rises : (y z : Slot) → Inside s y → Inside s z → session_slot_number s y < session_slot_number s z → is_join s y ≡ true → sets_early s z ≡ true → rank_of y < rank_of z
  join_rises (Input v) z i j b e f = absurd (false≢true e)
  join_rises (Output o) z i j b e f = absurd (false≢true e)
  join_rises (Kept o) z i j b e f = absurd (false≢true e)
  join_rises (Mask t side) z i j b e f = absurd (false≢true e)
  join_rises (Mask_product t) z i j b e f = absurd (false≢true e)
  join_rises (Masked t side) z i j b e f = absurd (false≢true e)
  join_rises (At_gate u) (Output o) i j b e f = absurd (false≢true f)
  join_rises (At_gate u) (Kept o) i j b e f = absurd (false≢true f)
  join_rises (At_gate u) (Masked t side) i j b e f = absurd (false≢true f)
  join_rises (At_gate u) (Input v) i j b e f = absurd (omega (arith, b, j))
  join_rises (At_gate u) (Mask t First) i j b e f = absurd (let early = prepared_early t j.0 j.1 in omega (arith, b, early.0, early.1))
  join_rises (At_gate u) (Mask t Second) i j b e f = absurd (let early = prepared_early t j.0 j.1 in omega (arith, b, early.0, early.1))
  join_rises (At_gate u) (Mask_product t) i j b e f = absurd (let early = prepared_early t j.0 j.1 in omega (arith, b, early.0, early.1))
  join_rises (At_gate u) (At_gate t) i j b e f =
      let multiplies = is_product (gate s t).operation in
      let none : is_prepared s t ≡ false = not_false (is_prepared s t) (and_parts (not (is_prepared s t)) true f).0 in
      let linear : multiplies ≡ false = sym (ap (λ p. p && multiplies) (and_parts s.prepared (is_product (gate s u).operation) e).0) ∙ none in
      let later = joins_last u t (gate_before u t (session_slot_number s (At_gate t)) (omega arith) b) j e linear in
      omega (arith, later)

  waiting_rises : (j k : ℕ) → j < k → k < session_slots s → waits_for s k j ≡ true → rank j < rank k
  waiting_rises j k less lk e =
      let lj : j < session_slots s = omega (arith, less, lk) in
      let y = session_slot s j in
      let z = session_slot s k in
      let are = slots_are_numbered s in
      let before : session_slot_number s y < session_slot_number s z = (let a = are.number j lj in let b = are.number k lk in omega (arith, a, b, less)) in
      elim (or_cases (list_any (slot_completes s j) (reads_early s z)) (is_join s y && sets_early s z) e) [
        | inl reads ↦ (let found = any_both (slot_completes s j) (reads_early s z) reads in reads_rise y z found.0 (are.inside j lj) (are.inside k lk) before found.2 found.1)
        | inr joins ↦ (let both = and_parts (is_join s y) (sets_early s z) joins in join_rises y z (are.inside j lj) (are.inside k lk) before both.0 both.1)
      ]

  -- the batches that begin in the first slots are no more than the layers up to the last of these
  begun_few : (n : ℕ) → n < session_slots s → total (suc n) (λ k. if nat_eq (batch s k) k then 1 else 0) ≤ suc (rank (batch s n))
  begun_few zero l = let one = cond-true {A = ℕ} (nat_eq (batch s 0) 0) 1 0 refl in omega (arith, one)
  begun_few (suc n) l =
      let before = begun_few n (omega (arith, l)) in
      elim (cases_Bool (nat_eq (batch s (suc n)) (suc n))) [
        | inl e ↦
            let begins = eqb-true (batch s (suc n)) (suc n) e in
            let found = begins_waiting s n begins in
            let later = waiting_rises found.0 (suc n) found.2 l found.3 in
            let first = batch_within s found.0 in
            let low = ranks_rise (batch s n) found.0 (let same = found.1 in omega (arith, same, first)) (let b = found.2 in omega (arith, b, l)) in
            let here = ap rank begins in
            let one = cond-true {A = ℕ} (nat_eq (batch s (suc n)) (suc n)) 1 0 e in
            omega (arith, before, later, low, here, one)
        | inr e ↦
            let rises = rising s n (suc n) (omega arith) in
            let higher = ranks_rise (batch s n) (batch s (suc n)) rises (let b = batch_within s (suc n) in omega (arith, b, l)) in
            let none = cond-false {A = ℕ} (nat_eq (batch s (suc n)) (suc n)) 1 0 e in
            omega (arith, before, higher, none)
      ]

  -- each batch begins in a later layer than the one before it
  pub few_begin : batches s ≤ prior + depth s + 2
  few_begin = go (session_slots s) refl
    where
      go : (n : ℕ) → n ≡ session_slots s → total n (λ k. if nat_eq (batch s k) k then 1 else 0) ≤ prior + depth s + 2
      go zero e = omega arith
      go (suc n) e =
          let few = begun_few n (omega (arith, e)) in
          let most_rank = rank_most (batch s n) (let b = batch_within s n in omega (arith, b, e)) in
          omega (arith, few, most_rank)

-- ---- the laws

-- each prepared product is a gate that multiplies
pub prepared_counted : (s : Session) → prepared_products s ≡ prepared_before s (length s.gates)
prepared_counted s = elim (cases_Bool s.prepared) [
  | inl e ↦ cond-true s.prepared (products s) 0 e ∙ sym (all_prepared s e)
  | inr e ↦ cond-false s.prepared (products s) 0 e ∙ sym (none_before s e (length s.gates))
]

-- where masks come ahead or not
pub layers_few : (s : Session) → IsWired s → StandsByLayers s → JoinsLast s → batches s ≤ preparing_batches s + depth s + 2
layers_few s wired by_layers joins_last =
    let few = few_begin s wired by_layers joins_last in
    let same = ap (λ n. if s.ahead then min 1 n else n) (prepared_counted s) in
    omega (arith, few, same)

pub prepared_few : (s : Session) → IsWired s → StandsByLayers s → JoinsLast s → batches s ≤ prepared_products s + depth s + 2
prepared_few s wired by_layers joins_last =
    let few = layers_few s wired by_layers joins_last in
    let less = cond_both s.ahead (min 1 (prepared_products s)) (prepared_products s) (λ n. n ≤ prepared_products s) (λ e. min-le_right 1 (prepared_products s)) (λ e. omega arith) in
    omega (arith, few, less)

pub ahead_few : (s : Session) → IsWired s → s.ahead ≡ true → StandsByLayers s → JoinsLast s → batches s ≤ depth s + 3
ahead_few s wired ahead by_layers joins_last =
    let few = layers_few s wired by_layers joins_last in
    let same = cond-true s.ahead (min 1 (prepared_products s)) (prepared_products s) ahead in
    let one = min-le_left 1 (prepared_products s) in
    omega (arith, few, same, one)

pub batches_few : (s : Session) → IsWired s → s.prepared ≡ false → StandsByLayers s → batches s ≤ depth s + 2
batches_few s wired direct by_layers =
    let few = prepared_few s wired by_layers (λ t u less l e linear. absurd (false≢true (sym (none_prepared s direct t) ∙ e))) in
    let none = cond-false s.prepared (products s) 0 direct in
    omega (arith, few, none)
