-- Sums over the slots of a session, kind by kind.
use Rattle.std.proofs.Common.{◌≡◌, ℕ, zero, suc, ◌+◌, ◌*◌, Bool, true, false, not, ◌&&◌, if◌then◌else◌, List, [], ◌∷◌, ◌++◌, length, refl, sym, ap, ap₂, ◌∙◌, inl, inr, arith}
use Rattle.std.specs.Prelude.{slice_index_or}
use Rattle.list_laws.specs.Lists.{total, joined, listed, only_if}
use Rattle.std.proofs.lemmas.Bool.{cases_Bool}
use Rattle.list_laws.proofs.Totals.{total_add, total_eq, total_zero, total_mul_left, total_count}
use Rattle.circuit_model.specs.declared.gate.Gate.{Gate}
use Rattle.circuit_model.specs.Circuits.{is_product}
use Rattle.session_slots.specs.declared.side.Side.TheVariants.{First, Second}
use Rattle.session_slots.specs.Sessions.{Session, Slot, owners, readers, gate, no_gate, is_prepared, is_direct, mask_slots, mask_product_slots, turns_of_masks, prepared_slots, gate_slots, slot_list, session_slot, session_slots}
use Rattle.session_slots.specs.Sessions.Slot.{Input, At_gate, Output, Mask, Mask_product, Masked, Kept}
use Rattle.session_slots.specs.Counts.{products, prepared_products}
use Rattle.session_slots.proofs.SessionSlots.{in_turn, in_two}

-- ---- counts as sums

abbrev pub one : Bool → ℕ
one b = if b then 1 else 0

-- ---- sums over lists of slots

abbrev summed : (Slot → ℕ) → List Slot → ℕ
summed f [] = 0
summed f (z ∷ zs) = f z + summed f zs

summed_append : (f : Slot → ℕ) (xs ys : List Slot) → summed f (xs ++ ys) ≡ summed f xs + summed f ys
summed_append f [] ys = omega arith
summed_append f (x ∷ xs) ys = omega (arith, summed_append f xs ys)

summed_joined : (f : Slot → ℕ) (n : ℕ) (g : ℕ → List Slot) → summed f (joined n g) ≡ total n (λ k. summed f (g k))
summed_joined f zero g = refl
summed_joined f (suc n) g = omega (arith, summed_append f (joined n g) (g n), summed_joined f n g)

summed_listed : (f : Slot → ℕ) (n : ℕ) (g : ℕ → Slot) → summed f (listed n g) ≡ total n (λ k. f (g k))
summed_listed f n g = summed_joined f n (λ k. g k ∷ []) ∙ total_eq n _ _ (λ k l. omega arith)

summed_if : (f : Slot → ℕ) (b : Bool) (xs : List Slot) → summed f (only_if b xs) ≡ (if b then summed f xs else 0)
summed_if f true xs = refl
summed_if f false xs = refl

-- a sum from the first place on
total_front : (n : ℕ) (f : ℕ → ℕ) → total (suc n) f ≡ f 0 + total n (λ k. f (suc k))
total_front zero f = omega arith
total_front (suc n) f = omega (arith, total_front n f)

summed_places : (f : Slot → ℕ) (d : Slot) (xs : List Slot) → total (length xs) (λ k. f (slice_index_or xs k d)) ≡ summed f xs
summed_places f d [] = refl
summed_places f d (x ∷ xs) = total_front (length xs) (λ k. f (slice_index_or (x ∷ xs) k d)) ∙ ap (λ n. f x + n) (summed_places f d xs)

-- ---- the slots of a session

-- what stands before the inputs, and what stands at the gates
abbrev pub sum_of_masks : Session → (Slot → ℕ) → ℕ
sum_of_masks s f = total (length s.gates) (λ t. if is_prepared s t then f (Mask t First) + f (Mask t Second) + f (Mask_product t) else 0)

abbrev pub sum_of_gates : Session → (Slot → ℕ) → ℕ
sum_of_gates s f = total (length s.gates) (λ t. (if is_prepared s t then f (Masked t First) + f (Masked t Second) else 0) + f (At_gate t))

list_is : (s : Session) → slot_list s ≡ prepared_slots s ++ (listed (length (owners s)) (λ v. Input v) ++ (gate_slots s ++ (listed (length (readers s)) (λ o. Output o) ++ listed (length s.kept) (λ j. Kept j))))
unfolding slot_list
list_is s = refl

-- masks and their products, in turn or not
turns_summed : (s : Session) (f : Slot → ℕ) → summed f (turns_of_masks s) ≡ sum_of_masks s f
turns_summed s f =
    summed_joined f (length s.gates) _
    ∙ total_eq (length s.gates) _ _ (λ t l. summed_if f (is_prepared s t) _ ∙ ap (λ n. if is_prepared s t then n else 0) (omega arith))

both_parts : (b : Bool) (m n : ℕ) → (if b then m else 0) + (if b then n else 0) ≡ (if b then m + n else 0)
both_parts true m n = refl
both_parts false m n = refl

parts_summed : (s : Session) (f : Slot → ℕ) → summed f (mask_slots s ++ mask_product_slots s) ≡ sum_of_masks s f
parts_summed s f =
    let pairs : ℕ → ℕ = λ t. if is_prepared s t then f (Mask t First) + f (Mask t Second) else 0 in
    let products : ℕ → ℕ = λ t. if is_prepared s t then f (Mask_product t) else 0 in
    let masks : summed f (mask_slots s) ≡ total (length s.gates) pairs =
    summed_joined f (length s.gates) _
    ∙ total_eq (length s.gates) _ _ (λ t l. summed_if f (is_prepared s t) _ ∙ ap (λ n. if is_prepared s t then n else 0) (omega arith)) in
    let others : summed f (mask_product_slots s) ≡ total (length s.gates) products =
    summed_joined f (length s.gates) _
    ∙ total_eq (length s.gates) _ _ (λ t l. summed_if f (is_prepared s t) _ ∙ ap (λ n. if is_prepared s t then n else 0) (omega arith)) in
    summed_append f (mask_slots s) (mask_product_slots s) ∙ ap₂ (λ m n. m + n) masks others
    ∙ sym (total_add (length s.gates) pairs products)
    ∙ total_eq (length s.gates) _ _ (λ t l. both_parts (is_prepared s t) (f (Mask t First) + f (Mask t Second)) (f (Mask_product t)))

summed_masks : (s : Session) (f : Slot → ℕ) → summed f (prepared_slots s) ≡ sum_of_masks s f
summed_masks s f = elim (cases_Bool s.ahead) [
  | inl early ↦ ap (summed f) (in_two s early) ∙ parts_summed s f
  | inr late ↦ ap (summed f) (in_turn s late) ∙ turns_summed s f
]

-- a sum over the slots by their kinds
pub by_kind : (s : Session) (f : Slot → ℕ) → total (session_slots s) (λ k. f (session_slot s k))
    ≡ sum_of_masks s f + total (length (owners s)) (λ v. f (Input v)) + sum_of_gates s f + total (length (readers s)) (λ o. f (Output o)) + total (length s.kept) (λ j. f (Kept j))
by_kind s f =
    let inputs = listed (length (owners s)) (λ v. Input v) in
    let outputs = listed (length (readers s)) (λ o. Output o) in
    let kept = listed (length s.kept) (λ j. Kept j) in
    let masks : summed f (prepared_slots s) ≡ sum_of_masks s f = summed_masks s f in
    let gates : summed f (gate_slots s) ≡ sum_of_gates s f =
    summed_joined f (length s.gates) _
    ∙ total_eq (length s.gates) _ _ (λ t l.
    summed_append f (only_if (is_prepared s t) (Masked t First ∷ Masked t Second ∷ [])) (At_gate t ∷ [])
    ∙ ap₂ (λ a b. a + b) (summed_if f (is_prepared s t) _ ∙ ap (λ n. if is_prepared s t then n else 0) (omega arith)) (omega arith)) in
    let parts : summed f (slot_list s) ≡ summed f (prepared_slots s ++ (inputs ++ (gate_slots s ++ (outputs ++ kept)))) = ap (summed f) (list_is s) in
    summed_places f (Output (length (readers s))) (slot_list s)
    ∙ omega (
      arith,
      parts,
      summed_append f (prepared_slots s) (inputs ++ (gate_slots s ++ (outputs ++ kept))),
      summed_append f inputs (gate_slots s ++ (outputs ++ kept)),
      summed_append f (gate_slots s) (outputs ++ kept),
      summed_append f outputs kept,
      masks,
      summed_listed f (length (owners s)) (λ v. Input v),
      gates,
      summed_listed f (length (readers s)) (λ o. Output o),
      summed_listed f (length s.kept) (λ j. Kept j),
    )

-- ---- how many slots pass a test

-- so many where the test passes, and else nothing
pub scaled : (n c : ℕ) (b : ℕ → Bool) → total n (λ t. if b t then c else 0) ≡ c * total n (λ t. one (b t))
scaled n c b = total_eq n _ _ (λ t l. each (b t)) ∙ total_mul_left n c (λ t. one (b t))
  where
    each : (x : Bool) → (if x then c else 0) ≡ c * one x
    each true = omega arith
    each false = omega arith

module _ (s : Session) where
  abbrev product : ℕ → Bool
  product t = is_product (gate s t).operation

  pub products_are : total (length s.gates) (λ t. one (product t)) ≡ products s
  products_are = total_count (λ (g : Gate). is_product g.operation) s.gates no_gate

  pub prepared_are : total (length s.gates) (λ t. one (is_prepared s t)) ≡ prepared_products s
  prepared_are = both s.prepared ∙ ap (λ n. if s.prepared then n else 0) products_are
    where
      both : (a : Bool) → total (length s.gates) (λ t. one (a && product t)) ≡ (if a then total (length s.gates) (λ t. one (product t)) else 0)
      both true = refl
      both false = total_zero (length s.gates) (λ t. 0) (λ t l. refl)

  -- the same number for each of the three slots of a prepared product before the inputs, and for each of the two at its
  -- gate
  masks_each : (f : Slot → ℕ) (c : ℕ) → ((t : ℕ) → f (Mask t First) + f (Mask t Second) + f (Mask_product t) ≡ c) → sum_of_masks s f ≡ total (length s.gates) (λ t. if is_prepared s t then c else 0)
  masks_each f c e = total_eq (length s.gates) _ _ (λ t l. ap (λ n. if is_prepared s t then n else 0) (e t))

  pub masks_same : (f : Slot → ℕ) (c : ℕ) → ((t : ℕ) → f (Mask t First) + f (Mask t Second) + f (Mask_product t) ≡ c) → sum_of_masks s f ≡ c * prepared_products s
  masks_same f c e = masks_each f c e ∙ scaled (length s.gates) c (is_prepared s) ∙ ap (λ n. c * n) prepared_are

  pub gates_same : (f : Slot → ℕ) (c : ℕ) → ((t : ℕ) → f (Masked t First) + f (Masked t Second) ≡ c) → ((t : ℕ) → f (At_gate t) ≡ 0) → sum_of_gates s f ≡ c * prepared_products s
  gates_same f c e none =
      total_eq (length s.gates) _ _ (λ t l. ap₂ (λ a b. (if is_prepared s t then a else 0) + b) (e t) (none t) ∙ omega arith)
      ∙ scaled (length s.gates) c (is_prepared s) ∙ ap (λ n. c * n) prepared_are

  -- each product is dealt in one slot, its own or that of its masks
  pub products_dealt : (f : Slot → ℕ) (h : Bool) → ((t : ℕ) → f (Mask t First) + f (Mask t Second) + f (Mask_product t) ≡ one h) → ((t : ℕ) → f (Masked t First) + f (Masked t Second) ≡ 0)
      → ((t : ℕ) → f (At_gate t) ≡ one (is_direct s t && h)) → sum_of_masks s f + sum_of_gates s f ≡ (if h then products s else 0)
  products_dealt f h masks masked gates =
      let at_gates : sum_of_gates s f ≡ total (length s.gates) (λ t. one (is_direct s t && h)) =
      total_eq (length s.gates) _ _ (λ t l. ap₂ (λ a b. (if is_prepared s t then a else 0) + b) (masked t) (gates t) ∙ no_more (is_prepared s t) (one (is_direct s t && h))) in
      ap₂ (λ a b. a + b) (masks_each f (one h) masks) at_gates ∙ split s.prepared h ∙ ap (λ n. if h then n else 0) products_are
    where
      none : total (length s.gates) (λ t. 0) ≡ 0
      none = total_zero (length s.gates) (λ t. 0) (λ t l. refl)

      no_more : (b : Bool) (n : ℕ) → (if b then 0 else 0) + n ≡ n
      no_more true n = omega arith
      no_more false n = omega arith

      same : (x : Bool) → one (x && true) ≡ one x
      same true = refl
      same false = refl

      nothing : (x : Bool) → ◌≡◌ {A = ℕ} (if x then 0 else 0) 0
      nothing true = refl
      nothing false = refl

      never : (x : Bool) → one (x && false) ≡ 0
      never true = refl
      never false = refl

      split : (a h : Bool) → total (length s.gates) (λ t. if a && product t then one h else 0) + total (length s.gates) (λ t. one ((not a && product t) && h)) ≡ (if h then total (length s.gates) (λ t. one (product t)) else 0)
      split true true = omega (arith, none)
      split true false = let all = total_zero (length s.gates) (λ t. if product t then 0 else 0) (λ t l. nothing (product t)) in omega (arith, none, all)
      split false true = let all = total_eq (length s.gates) (λ t. one (product t && true)) _ (λ t l. same (product t)) in omega (arith, none, all)
      split false false = let all = total_zero (length s.gates) (λ t. one (product t && false)) (λ t l. never (product t)) in omega (arith, none, all)
