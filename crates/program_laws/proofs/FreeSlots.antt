-- The head of a slot may be done before the tails of the slots before it in its batch.
use Rattle.std.proofs.Common.{◌≡◌, ℕ, zero, suc, ◌+◌, ◌-◌, ◌<◌, ◌≤◌, ◌⊎◌, Bool, true, false, not, ◌||◌, ◌&&◌, nat_eq, List, [], ◌∷◌, ◌++◌, length, refl, sym, ap, ap₂, ◌∙◌, subst, arith}
use Rattle.std.specs.List.{AllByRecursion, list_any}
use Rattle.std.proofs.lemmas.Bool.{cases_Bool, both_ways, or_parts, and_parts, eqb-true, false≢true, cond-true, cond-false}
use mathlib.Core.Logic.{inl, inr}
use Rattle.list_laws.specs.Lists.{joined, only_if}
use Rattle.list_laws.proofs.JoinedLists.{every_append, every_weaker, every_both}
use Rattle.circuit_model.specs.Circuits.{is_product}
use Rattle.circuit_model.specs.Netlists.{read_by}
use Rattle.session_slots.specs.Sessions.{Session, Slot, gate, is_prepared, mask_wire, product_wire, product_in, session_slots}
use Rattle.session_slots.specs.Sessions.Slot.{Input, At_gate, Output, Mask, Mask_product, Masked, Kept}
use Rattle.session_slots.specs.declared.side.Side.TheVariants.{First, Second}
use Rattle.session_slots.specs.KeptWires.{IsInOrder, slot_sets, slot_reads, sets_in, reads_in}
use Rattle.session_slots.specs.EarlyWires.{completes, slot_completes, is_join, sets_early, reads_early}
use Rattle.job_session.specs.Batches.{waits_for, batch}
use Rattle.plan_model.specs.Plans.{Plan, session, slot, slots}
use Rattle.plan_model.specs.declared.key.Key.{Key}
use Rattle.plan_model.specs.Firsts.{numbers}
use Rattle.plan_model.specs.Numbers.{message, deals_before}
use Rattle.plan_model.specs.Sound.{IsSound}
use Rattle.plan_model.proofs.SlotMessages.{every_filter}
use Rattle.share_world.specs.Worlds.{World}
use Rattle.share_world.proofs.Settled.{is_one, of_one, is_first, is_second}
use Rattle.program_model.specs.declared.instruction.Instruction.{Instruction}
use Rattle.program_model.specs.declared.instruction.Instruction.TheVariants.{Deal}
use Rattle.program_model.specs.Programs.{from, to, head, tail, tails, taken}
use Rattle.program_model.specs.States.{Given, State}
use Rattle.program_laws.specs.Meets.{local_given, Goes}
use Rattle.program_laws.specs.Exchanges.{Becomes}
use Rattle.job_session.proofs.BatchOrder.{no_wait, batch_within}
use Rattle.program_laws.proofs.Exchanged.{GoesFirst, all_first}
use Rattle.program_laws.proofs.GateReads.{product_reads}
use Rattle.program_laws.proofs.ProgramParts.{Multiplied, in_slot, taken_in_slot, every_opening, every_closing, every_head, every_tail}
use Rattle.program_laws.proofs.FreeInstructions as free

-- no wire of the list passes
pub none_passes : (f : ℕ → Bool) (v : ℕ) (vs : List ℕ) → list_any f vs ≡ false → list_any (nat_eq v) vs ≡ true → f v ≡ false
none_passes f v [] e h = absurd (false≢true h)
none_passes f v (u ∷ us) e h =
    let both = or_parts (f u) (list_any f us) e in
    elim (cases_Bool (nat_eq v u)) [
      | inl same ↦ ap f (eqb-true v u same) ∙ both.0
      | inr ne ↦ none_passes f v us both.1 (sym (ap (λ b. b || list_any (nat_eq v) us) ne) ∙ h)
    ]

every : {A : Type 0} (Q : A → Type 0) (es : List A) → ((e : A) → Q e) → AllByRecursion Q es
every Q [] f = tt
every Q (e ∷ es) f = (f e, every Q es f)

-- a number above each of the list
abbrev above : List ℕ → ℕ
above [] = 0
above (u ∷ us) = suc u + above us

is_above : (us : List ℕ) (u : ℕ) → list_any (nat_eq u) us ≡ true → u < above us
is_above [] u h = absurd (false≢true h)
is_above (v ∷ us) u h = elim (cases_Bool (nat_eq u v)) [
  | inl same ↦ let e = eqb-true u v same in omega arith
  | inr ne ↦ let less = is_above us u (sym (ap (λ b. b || list_any (nat_eq u) us) ne) ∙ h) in omega arith
]

-- ---- what a slot completes, and what its head reads

pub direct_unprepared : (prepared product : Bool) → (not prepared && product) ≡ true → (prepared && product) ≡ false
direct_unprepared true b e = absurd (false≢true e)
direct_unprepared false b e = refl

pub no_product : (prepared product : Bool) → product ≡ false → (prepared && product) ≡ false
no_product true b e = e
no_product false b e = refl

module _ (x : Session) where
  -- a product completes its wire, be it dealt or joined
  gate_completes : (t : ℕ) → is_product (gate x t).operation ≡ true → completes x (At_gate t) ≡ (gate x t).output ∷ []
  gate_completes t product = cond-true (is_product (gate x t).operation) ((gate x t).output ∷ []) [] product

  gate_own : (t : ℕ) → is_product (gate x t).operation ≡ true → list_any (nat_eq (gate x t).output) (completes x (At_gate t)) ≡ true
  gate_own t product = let o : ℕ = (gate x t).output in ap (list_any (nat_eq o)) (gate_completes t product) ∙ is_one o o refl

  pub joined_completes : (t : ℕ) → is_prepared x t ≡ true → list_any (nat_eq (gate x t).output) (completes x (At_gate t)) ≡ true
  joined_completes t prepared = gate_own t (and_parts x.prepared (is_product (gate x t).operation) prepared).1

  pub product_completes : (z : Slot) → Multiplied x z → list_any (nat_eq (product_in x z).output) (completes x z) ≡ true
  product_completes (At_gate t) direct = gate_own t (and_parts (not x.prepared) (is_product (gate x t).operation) direct).1
  product_completes (Mask_product t) is = is_one (product_wire x t) (product_wire x t) refl
  product_completes (Input v) is = absurd is
  product_completes (Output o) is = absurd is
  product_completes (Mask t side) is = absurd is
  product_completes (Masked t side) is = absurd is
  product_completes (Kept j) is = absurd is

  -- a slot completes one wire or none
  one_or_none : (z : Slot) → (completes x z ≡ []) ⊎ ((v : ℕ) × (completes x z ≡ v ∷ []))
  one_or_none (Input v) = inr (v, refl)
  one_or_none (At_gate t) = elim (cases_Bool (is_product (gate x t).operation)) [
    | inl product ↦ inr ((gate x t).output, gate_completes t product)
    | inr linear ↦ inl (cond-false (is_product (gate x t).operation) ((gate x t).output ∷ []) [] linear)
  ]
  one_or_none (Output o) = inl refl
  one_or_none (Mask t side) = inr (mask_wire x t side, refl)
  one_or_none (Mask_product t) = inr (product_wire x t, refl)
  one_or_none (Masked t side) = inl refl
  one_or_none (Kept j) = inl refl

  -- which it sets
  pub completes_sets : (z : Slot) (v : ℕ) → list_any (nat_eq v) (completes x z) ≡ true → list_any (nat_eq v) (sets_in x z) ≡ true
  completes_sets (Input u) v h = h
  completes_sets (At_gate t) v h = elim (cases_Bool (is_product (gate x t).operation)) [
    | inl product ↦ sym (ap (list_any (nat_eq v)) (gate_completes t product)) ∙ h
    | inr linear ↦ absurd (false≢true (sym (ap (list_any (nat_eq v)) (cond-false (is_product (gate x t).operation) ((gate x t).output ∷ []) [] linear)) ∙ h))
  ]
  completes_sets (Output o) v h = h
  completes_sets (Mask t side) v h = h
  completes_sets (Mask_product t) v h = h
  completes_sets (Masked t side) v h = h
  completes_sets (Kept j) v h = h

  -- a slot that joins nothing reads all that it reads in its head
  pub early_reads : (z : Slot) → is_join x z ≡ false → reads_early x z ≡ reads_in x z
  early_reads z none = ap (λ b. only_if (not b) (reads_in x z)) none

  -- and so does a gate
  gate_reads : (t v : ℕ) → is_prepared x t ≡ false → list_any (nat_eq v) (read_by (gate x t)) ≡ true → list_any (nat_eq v) (reads_early x (At_gate t)) ≡ true
  gate_reads t v unprepared h =
      ap (list_any (nat_eq v)) (early_reads (At_gate t) unprepared
      ∙ cond-false (is_prepared x t) (mask_wire x t First ∷ mask_wire x t Second ∷ product_wire x t ∷ []) (read_by (gate x t)) unprepared) ∙ h

  -- a product that is dealt reads its two wires
  factors_read : (z : Slot) → Multiplied x z
      → (list_any (nat_eq (product_in x z).first) (reads_early x z) ≡ true) × (list_any (nat_eq (product_in x z).second) (reads_early x z) ≡ true)
  factors_read (At_gate t) direct =
      let unprepared : is_prepared x t ≡ false = direct_unprepared x.prepared (is_product (gate x t).operation) direct in
      let reads = product_reads (gate x t) (and_parts (not x.prepared) (is_product (gate x t).operation) direct).1 in
      (gate_reads t (gate x t).first unprepared reads.0, gate_reads t (gate x t).second unprepared reads.1)
  factors_read (Mask_product t) h =
      let a : ℕ = mask_wire x t First in
      let b : ℕ = mask_wire x t Second in
      (is_first a b, is_second a b)
  factors_read (Input v) h = absurd h
  factors_read (Output o) h = absurd h
  factors_read (Mask t side) h = absurd h
  factors_read (Masked t side) h = absurd h
  factors_read (Kept j) h = absurd h

module _ (w : World) (sound : IsSound w.plan) (got : Key → ℕ) (s p : ℕ) (ls : s < length w.plan.sessions) where
  abbrev plan : Plan
  plan = w.plan

  abbrev x : Session
  x = session w.plan s

  abbrev l : Given
  l = local_given w got s p

  abbrev P : Instruction → State → Type 0
  P = Goes w got s p

  order : IsInOrder x
  order = (sound.sessions s ls).wired.order

  abbrev Clear : Slot → ℕ → Type 0
  Clear = free.Clear w got s p

  abbrev Only : Slot → ℕ → Type 0
  Only = free.Only w got s p

  -- ---- what tails set and what heads ignore

  tail_sets : (j v : ℕ) → j < slots plan s → Only (slot plan s j) v → AllByRecursion (λ t. free.Puts w got s p (slot plan s j) t v) (tail plan p s j)
  tail_sets j v lj only =
      let z : Slot = slot plan s j in
      let back : (y : Slot) (t : Instruction) → z ≡ y → free.Puts w got s p y t v → free.Puts w got s p z t v = λ y t e h. subst (λ y. free.Puts w got s p y t v) (sym e) h in
      let out : (y : Slot) → z ≡ y → Multiplied x y → (product_in x z).output ≡ v = λ y e is. only (product_in x z).output (product_completes x z (subst (Multiplied x) (sym e) is)) in
      every_tail plan s p _ j
      (every_filter _ _ (to plan p) (taken plan s j) (taken_in_slot plan sound s p ls j lj) (λ n it e. free.take_puts w got s p n (message plan n).share v z it.same only))
      (every_closing plan s p _ j (record {
        sums = λ y e is. free.sum_puts w got s p j v z refl (out y e is);
        opens = λ t side e. back _ _ e (free.open_puts w got s p j t v side e);
        joins = λ t e b.
            let out : (gate x t).output ≡ v = only (gate x t).output (subst (λ y. list_any (nat_eq (gate x t).output) (completes x y) ≡ true) (sym e) (joined_completes x t b)) in
            back _ _ e (free.join_puts w got s p j t v e b out);
        delivers = λ o e. back _ _ e (free.deliver_puts w got s p j o v e);
      }))

  head_ignores : (k v : ℕ) → k < slots plan s → Clear (slot plan s k) v → AllByRecursion (λ e. free.Passes w got s p (slot plan s k) e v) (head plan p s k)
  head_ignores k v lk clear =
      let d : ℕ = deals_before plan p s k in
      let z : Slot = slot plan s k in
      let here : (y : Slot) → z ≡ y → Clear y v = λ y e. subst (λ y. Clear y v) e clear in
      let back : (y : Slot) (i : Instruction) → z ≡ y → free.Passes w got s p y i v → free.Passes w got s p z i v = λ y i e h. subst (λ y. free.Passes w got s p y i v) (sym e) h in
      let dealt : (y : Slot) → z ≡ y → Multiplied x y → free.Passes w got s p z (Deal k d) v = λ y e is. of_product d k v y e is clear in
      every_head plan s p _ k
      (every_opening plan s p _ k (record {
        draws = λ t side e some. back _ _ e (free.draw_passes w got s p k t v side e (here (Mask t side) e));
        inputs = λ u e b. back _ _ e (free.deal_passes_input w got s p k d u v e (here (Input u) e));
        products = λ y e is b.
            let reads = factors_read x z (subst (Multiplied x) (sym e) is) in
            (free.own_passes w got s p k v z refl (clear.0 (product_in x z).first reads.0) (clear.0 (product_in x z).second reads.1), dealt y e is);
        linears = λ t e b.
            let unprepared : is_prepared x t ≡ false = no_product x.prepared (is_product (gate x t).operation) b in
            back _ _ e (free.linear_passes w got s p k t v e (here (At_gate t) e) (λ u h. (here (At_gate t) e).0 u (gate_reads x t u unprepared h)));
      }))
      (every_filter _ _ (from plan p) (numbers plan s k) (in_slot plan sound s p ls k lk) (λ n f e. free.post_passes w got s p n (message plan n).share v z (ap₂ (slot plan) f.1.2 f.1.0) clear))
    where
      of_product : (d k v : ℕ) (y : Slot) → slot plan s k ≡ y → Multiplied x y → Clear (slot plan s k) v → free.Passes w got s p (slot plan s k) (Deal k d) v
      of_product d k v (At_gate t) e is clear = subst (λ y. free.Passes w got s p y (Deal k d) v) (sym e) (free.deal_passes_gate w got s p k d t v e (subst (λ y. Clear y v) e clear))
      of_product d k v (Mask_product t) e is clear = subst (λ y. free.Passes w got s p y (Deal k d) v) (sym e) (free.deal_passes_masks w got s p k d t v e (subst (λ y. Clear y v) e clear))
      of_product d k v (Input u) e is clear = absurd is
      of_product d k v (Output o) e is clear = absurd is
      of_product d k v (Mask t side) e is clear = absurd is
      of_product d k v (Masked t side) e is clear = absurd is
      of_product d k v (Kept j) e is clear = absurd is

  -- ---- a slot before another, that it doesn't wait for

  -- the wire that the tail of the one sets, or one that nobody touches, where it sets none: the head of the other is clear of it
  clear_wire : (j k : ℕ) → j < k → k < slots plan s → waits_for x k j ≡ false → (v : ℕ) × Only (slot plan s j) v × Clear (slot plan s k) v
  clear_wire j k less lk waits =
      let z : Slot = slot plan s j in
      let early : List ℕ = reads_early x (slot plan s k) in
      let sets : List ℕ = sets_in x (slot plan s k) in
      elim (one_or_none x z) [
        | inl none ↦ (
          above early + above sets,
          λ u h. absurd (false≢true (sym (ap (list_any (nat_eq u)) none) ∙ h)),
          (
            λ u h e. (let less = is_above early u h in omega arith),
            λ u h e. (let less = is_above sets u h in omega arith),
          ),
        )
        | inr one ↦
            let v : ℕ = one.0 in
            let complete : slot_completes x j v ≡ true = ap (list_any (nat_eq v)) one.1 ∙ is_one v v refl in
            let apart : list_any (slot_completes x j) early ≡ false = (or_parts (list_any (slot_completes x j) early) (is_join x z && sets_early x (slot plan s k)) waits).0 in (
              v,
              λ u h. of_one v u (sym (ap (list_any (nat_eq u)) one.1) ∙ h),
              (
                λ u h e. both_ways (slot_completes x j v) (none_passes (slot_completes x j) v early apart (ap (λ y. list_any (nat_eq y) early) e ∙ h)) complete,
                λ u h e. both_ways (slot_sets x k v) (order.once j k v less lk (completes_sets x z v complete)) (ap (λ y. list_any (nat_eq y) sets) e ∙ h),
              ),
            )
      ]

  -- what a slot reads, none after it sets
  reads_first : (j k u : ℕ) → j < k → k < slots plan s → slot_reads x j u ≡ true → slot_sets x k u ≡ true → ⊥
  reads_first j k u less lk reads sets =
      let by = order.before j u (omega arith) reads in
      let sooner : by.0 < j = by.1 in
      both_ways (slot_sets x k u) (order.once by.0 k u (omega arith) lk by.2) sets

  before : (k j : ℕ) → k < slots plan s → j < k → waits_for x k j ≡ false → AllByRecursion (GoesFirst P l (tail plan p s j)) (head plan p s k)
  before k j lk less waits =
      let z : Slot = slot plan s j in
      let y : Slot = slot plan s k in
      let wire = clear_wire j k less lk waits in
      let v : ℕ = wire.0 in
      every_weaker _ _ (head plan p s k)
      (λ e ignores. every_weaker _ _ (tail plan p s j) (λ t sets. free.free w got s p z y t e v (λ u reads sets. reads_first j k u less lk reads sets) wire.2 sets ignores)
      (tail_sets j v (omega arith) wire.1))
      (head_ignores k v lk wire.2)

  firsts : (n : ℕ) (f : ℕ → List Instruction) (es : List Instruction) → ((i : ℕ) → i < n → AllByRecursion (GoesFirst P l (f i)) es) → AllByRecursion (GoesFirst P l (joined n f)) es
  firsts zero f es h = every _ es (λ e. tt)
  firsts (suc n) f es h = every_both (GoesFirst P l (joined n f)) (GoesFirst P l (f n)) (GoesFirst P l (joined (suc n) f)) es (λ e a b. every_append _ (joined n f) (f n) a b) (firsts n f es (λ i li. h i (omega arith))) (h n (omega arith))

  -- the head of a slot before the tails that are still to come
  pub in_batch : (k : ℕ) → k < session_slots x → Becomes P l (tails plan p s (batch x k) k ++ head plan p s k) (head plan p s k ++ tails plan p s (batch x k) k)
  in_batch k lk =
      let a : ℕ = batch x k in
      let le : a ≤ k = batch_within x k in
      all_first P l (tails plan p s a k) (head plan p s k) (firsts (k - a) (λ j. tail plan p s (a + j)) (head plan p s k) (λ j lj. before k (a + j) lk (omega arith) (no_wait x k (a + j) (omega arith) (omega arith))))
