-- What each slot of a session is of, and its number.
use Rattle.std.proofs.Common.{◌≡◌, ℕ, zero, suc, ◌+◌, ◌-◌, ◌*◌, ◌<◌, ◌≤◌, Bool, true, false, ◌&&◌, List, [], ◌∷◌, ◌++◌, length, refl, sym, ap, ◌∙◌, subst, arith, append_assoc, length-append}
use Rattle.std.specs.Prelude.{slice_index_or, if◌then◌else◌}
use Rattle.std.proofs.lemmas.Bool.{cases_lt, cases_Bool, cond-true, cond-false, cond_both, both_ways}
use Rattle.std.proofs.lemmas.List.{get_or-append-add, get_or_past}
use Rattle.std.proofs.Math.ListN.{get_or-append}
use mathlib.Core.Logic.{inl, inr}
use Rattle.circuit_model.specs.declared.gate.Gate.{Gate}
use Rattle.circuit_model.specs.Circuits.{is_product}
use Rattle.list_laws.specs.Lists.{total, listed, only_if}
use Rattle.list_laws.proofs.Totals.{total_eq, total_mul_left, total_zero, total_count}
use Rattle.list_laws.proofs.JoinedLists.{length-joined, length-listed, listed_at, total_within, joined_place, locate}
use Rattle.session_slots.specs.declared.side.Side.TheVariants.{First, Second}
use Rattle.session_slots.specs.Sessions.{Session, Slot, owners, readers, gate, no_gate, is_prepared, mask_slots, mask_product_slots, turns_of_masks, prepared_slots, gate_slots, slot_list, session_slot, session_slots}
use Rattle.session_slots.specs.Sessions.Slot.{Input, At_gate, Output, Mask, Mask_product, Masked, Kept}
use Rattle.session_slots.specs.Counts.{products}
use Rattle.session_slots.specs.SoundSessions.{Inside}
use Rattle.session_slots.specs.SlotNumbers.{prepared_before, first_input, first_of_masks, mask_product_number, first_of_gate, session_slot_number, SlotsAreNumbered}

pub product_within : (s : Session) (t : ℕ) → is_product (gate s t).operation ≡ true → t < length s.gates
product_within s t e = elim (cases_lt t (length s.gates)) [
  | inl l ↦ l
  | inr past ↦ absurd (both_ways (is_product (gate s t).operation) (ap (λ z. is_product z.operation) (get_or_past s.gates t no_gate past)) e)
]

-- ---- the slots of one gate

abbrev one_if : Bool → ℕ
one_if b = if b then 1 else 0

-- how many slots of a gate stand before its own
abbrev step_of : Bool → ℕ
step_of b = if b then 2 else 0

abbrev turn_of_masks : Bool → ℕ → List Slot
turn_of_masks b t = only_if b (Mask t First ∷ Mask t Second ∷ Mask_product t ∷ [])

abbrev masks_of : Bool → ℕ → List Slot
masks_of b t = only_if b (Mask t First ∷ Mask t Second ∷ [])

abbrev product_of : Bool → ℕ → List Slot
product_of b t = only_if b (Mask_product t ∷ [])

abbrev gate_of : Bool → ℕ → List Slot
gate_of b t = only_if b (Masked t First ∷ Masked t Second ∷ []) ++ (At_gate t ∷ [])

three : (b : Bool) (t : ℕ) → length (turn_of_masks b t) ≡ 3 * one_if b
three true t = refl
three false t = refl

two : (b : Bool) (t : ℕ) → length (masks_of b t) ≡ 2 * one_if b
two true t = refl
two false t = refl

just_one : (b : Bool) (t : ℕ) → length (product_of b t) ≡ one_if b
just_one true t = refl
just_one false t = refl

up_to_three : (b : Bool) (t : ℕ) → length (gate_of b t) ≡ 1 + 2 * one_if b
up_to_three true t = refl
up_to_three false t = refl

at_last : (b : Bool) (t : ℕ) (d : Slot) → slice_index_or (gate_of b t) (step_of b) d ≡ At_gate t
at_last true t d = refl
at_last false t d = refl

last_within : (b : Bool) (t : ℕ) → step_of b < length (gate_of b t)
last_within true t = omega arith
last_within false t = omega arith

module _ (s : Session) where
  abbrev past_all : Slot
  past_all = Output (length (readers s))

  abbrev count : ℕ
  count = length s.gates

  abbrev turns : ℕ → List Slot
  turns t = turn_of_masks (is_prepared s t) t

  abbrev masks : ℕ → List Slot
  masks t = masks_of (is_prepared s t) t

  abbrev mask_products : ℕ → List Slot
  mask_products t = product_of (is_prepared s t) t

  abbrev turn : ℕ → List Slot
  turn t = gate_of (is_prepared s t) t

  abbrev inputs : List Slot
  inputs = listed (length (owners s)) (λ v. Input v)

  abbrev outputs : List Slot
  outputs = listed (length (readers s)) (λ o. Output o)

  abbrev kept : List Slot
  kept = listed (length s.kept) (λ j. Kept j)

  -- at most so many of the first t gates are prepared
  pub few_before : (t : ℕ) → prepared_before s t ≤ t
  few_before zero = omega arith
  few_before (suc t) = (let before = few_before t in cond_both (is_prepared s t) 1 0 (λ n. prepared_before s t + n ≤ suc t) (λ e. omega (arith, before)) (λ e. omega (arith, before)))

  -- and their count rises
  pub more_before : (t u : ℕ) → t < u → prepared_before s t + (if is_prepared s t then 1 else 0) ≤ prepared_before s u
  more_before t u l = total_within u t (λ i. one_if (is_prepared s i)) l

  pub one_more : (t : ℕ) → is_prepared s t ≡ true → ◌≡◌ {A = ℕ} (if is_prepared s t then 1 else 0) 1
  one_more t e = cond-true (is_prepared s t) 1 0 e

  -- a gate's slot stands before all of those of a later gate
  pub gate_rises : (t u : ℕ) → t < u → session_slot_number s (At_gate t) < first_of_gate s u
  gate_rises t u l =
      let more = more_before t u l in
      cond_both (is_prepared s t) 2 0 (λ n. first_of_gate s t + n < first_of_gate s u) (λ e. (let one = one_more t e in omega (arith, more, one, l))) (λ e. omega (arith, more, l))

  all_turns_long : (t : ℕ) → total t (λ u. length (turns u)) ≡ 3 * prepared_before s t
  all_turns_long t = total_eq t _ _ (λ u l. three (is_prepared s u) u) ∙ total_mul_left t 3 (λ u. one_if (is_prepared s u))

  masks_long : (t : ℕ) → total t (λ u. length (masks u)) ≡ 2 * prepared_before s t
  masks_long t = total_eq t _ _ (λ u l. two (is_prepared s u) u) ∙ total_mul_left t 2 (λ u. one_if (is_prepared s u))

  products_long : (t : ℕ) → total t (λ u. length (mask_products u)) ≡ prepared_before s t
  products_long t = total_eq t _ _ (λ u l. just_one (is_prepared s u) u)

  turns_long : (t : ℕ) → total t (λ u. length (turn u)) ≡ t + 2 * prepared_before s t
  turns_long zero = refl
  turns_long (suc t) = (let before = turns_long t in let here = up_to_three (is_prepared s t) t in omega (arith, before, here))

  -- masks come in turn with their products, or ahead
  pub in_turn : s.ahead ≡ false → prepared_slots s ≡ turns_of_masks s
  in_turn e = cond-false s.ahead (mask_slots s ++ mask_product_slots s) (turns_of_masks s) e

  pub in_two : s.ahead ≡ true → prepared_slots s ≡ mask_slots s ++ mask_product_slots s
  in_two e = cond-true s.ahead (mask_slots s ++ mask_product_slots s) (turns_of_masks s) e

  just_masks : length (mask_slots s) ≡ 2 * prepared_before s count
  just_masks = length-joined count masks ∙ masks_long count

  just_products : length (mask_product_slots s) ≡ prepared_before s count
  just_products = length-joined count mask_products ∙ products_long count

  just_turns : length (turns_of_masks s) ≡ first_input s
  just_turns = length-joined count turns ∙ all_turns_long count

  all_masks : length (prepared_slots s) ≡ first_input s
  all_masks = elim (cases_Bool s.ahead) [
    | inl e ↦ (let both = length-append (mask_slots s) (mask_product_slots s) in ap length (in_two e) ∙ omega (arith, both, just_masks, just_products))
    | inr e ↦ ap length (in_turn e) ∙ just_turns
  ]

  all_inputs : length inputs ≡ length (owners s)
  all_inputs = length-listed (length (owners s)) (λ v. Input v)

  all_turns : length (gate_slots s) ≡ count + 2 * prepared_before s count
  all_turns = length-joined count turn ∙ turns_long count

  all_outputs : length outputs ≡ length (readers s)
  all_outputs = length-listed (length (readers s)) (λ o. Output o)

  all_kept : length kept ≡ length s.kept
  all_kept = length-listed (length s.kept) (λ j. Kept j)

  -- ---- the parts of the list

  abbrev from_outputs : List Slot
  from_outputs = outputs ++ kept

  abbrev from_gates : List Slot
  from_gates = gate_slots s ++ from_outputs

  abbrev from_inputs : List Slot
  from_inputs = inputs ++ from_gates

  list_is : slot_list s ≡ prepared_slots s ++ from_inputs
  unfolding slot_list
  list_is = refl

  -- the slots before those of the kept wires
  abbrev pub own_slots : List Slot
  own_slots = prepared_slots s ++ (inputs ++ (gate_slots s ++ outputs))

  pub kept_last : slot_list s ≡ own_slots ++ kept
  kept_last =
      list_is
      ∙ ap (λ xs. prepared_slots s ++ (inputs ++ xs)) (sym (append_assoc (gate_slots s) outputs kept))
      ∙ ap (λ xs. prepared_slots s ++ xs) (sym (append_assoc inputs (gate_slots s ++ outputs) kept))
      ∙ sym (append_assoc (prepared_slots s) (inputs ++ (gate_slots s ++ outputs)) kept)

  pub slot_count : session_slots s ≡ first_of_gate s count + length (readers s) + length s.kept
  slot_count =
      let whole = length-append (prepared_slots s) from_inputs in
      let behind = length-append inputs from_gates in
      let gates = length-append (gate_slots s) from_outputs in
      let last = length-append outputs kept in
      ap length list_is ∙ omega (arith, whole, behind, gates, last, all_masks, all_inputs, all_turns, all_outputs, all_kept)

  at_masks : (k : ℕ) → k < first_input s → session_slot s k ≡ slice_index_or (prepared_slots s) k past_all
  at_masks k l = ap (λ xs. slice_index_or xs k past_all) list_is ∙ get_or-append (prepared_slots s) from_inputs past_all k (omega (arith, l, all_masks))

  behind_masks : (k : ℕ) → session_slot s (first_input s + k) ≡ slice_index_or from_inputs k past_all
  behind_masks k =
      ap (λ n. session_slot s (n + k)) (sym all_masks) ∙ ap (λ xs. slice_index_or xs (length (prepared_slots s) + k) past_all) list_is
      ∙ get_or-append-add (prepared_slots s) from_inputs k past_all

  behind_inputs : (k : ℕ) → session_slot s (first_input s + length (owners s) + k) ≡ slice_index_or from_gates k past_all
  behind_inputs k =
      let same : first_input s + length (owners s) + k ≡ first_input s + (length inputs + k) = omega (arith, all_inputs) in
      ap (session_slot s) same ∙ behind_masks (length inputs + k) ∙ get_or-append-add inputs from_gates k past_all

  behind_gates : (k : ℕ) → session_slot s (first_of_gate s count + k) ≡ slice_index_or from_outputs k past_all
  behind_gates k =
      let same : first_of_gate s count + k ≡ first_input s + length (owners s) + (length (gate_slots s) + k) = omega (arith, all_turns) in
      ap (session_slot s) same ∙ behind_inputs (length (gate_slots s) + k) ∙ get_or-append-add (gate_slots s) from_outputs k past_all

  -- ---- each kind at its number

  -- in turn
  turn_at : s.ahead ≡ false → (t i : ℕ) → t < count → is_prepared s t ≡ true → i < 3 → session_slot s (3 * prepared_before s t + i) ≡ slice_index_or (turn_of_masks true t) i past_all
  turn_at late t i lt e li =
      let here : length (turns t) ≡ 3 = ap (λ b. length (turn_of_masks b t)) e in
      let within = total_within count t (λ u. length (turns u)) lt in
      let same : 3 * prepared_before s t + i ≡ total t (λ u. length (turns u)) + i = omega (arith, all_turns_long t) in
      ap (session_slot s) same
      ∙ at_masks (total t (λ u. length (turns u)) + i) (omega (arith, here, within, all_turns_long count, li))
      ∙ ap (λ xs. slice_index_or xs (total t (λ u. length (turns u)) + i) past_all) (in_turn late)
      ∙ joined_place past_all count t turns i lt (omega (arith, here, li))
      ∙ ap (λ b. slice_index_or (turn_of_masks b t) i past_all) e

  -- ahead
  mask_at : s.ahead ≡ true → (t i : ℕ) → t < count → is_prepared s t ≡ true → i < 2 → session_slot s (2 * prepared_before s t + i) ≡ slice_index_or (masks_of true t) i past_all
  mask_at early t i lt e li =
      let here : length (masks t) ≡ 2 = ap (λ b. length (masks_of b t)) e in
      let within = total_within count t (λ u. length (masks u)) lt in
      let same : 2 * prepared_before s t + i ≡ total t (λ u. length (masks u)) + i = omega (arith, masks_long t) in
      let short : total t (λ u. length (masks u)) + i < length (mask_slots s) = omega (arith, here, within, masks_long count, just_masks, li) in
      ap (session_slot s) same
      ∙ at_masks (total t (λ u. length (masks u)) + i) (omega (arith, short, just_masks))
      ∙ ap (λ xs. slice_index_or xs (total t (λ u. length (masks u)) + i) past_all) (in_two early)
      ∙ get_or-append (mask_slots s) (mask_product_slots s) past_all (total t (λ u. length (masks u)) + i) short
      ∙ joined_place past_all count t masks i lt (omega (arith, here, li))
      ∙ ap (λ b. slice_index_or (masks_of b t) i past_all) e

  product_at : s.ahead ≡ true → (t : ℕ) → t < count → is_prepared s t ≡ true → session_slot s (2 * prepared_before s count + prepared_before s t) ≡ Mask_product t
  product_at early t lt e =
      let here : length (mask_products t) ≡ 1 = ap (λ b. length (product_of b t)) e in
      let within = total_within count t (λ u. length (mask_products u)) lt in
      let before : ℕ = total t (λ u. length (mask_products u)) in
      let same : 2 * prepared_before s count + prepared_before s t ≡ length (mask_slots s) + (before + 0) = omega (arith, products_long t, just_masks) in
      ap (session_slot s) same
      ∙ at_masks (length (mask_slots s) + (before + 0)) (omega (arith, here, within, products_long count, just_masks))
      ∙ ap (λ xs. slice_index_or xs (length (mask_slots s) + (before + 0)) past_all) (in_two early)
      ∙ get_or-append-add (mask_slots s) (mask_product_slots s) (before + 0) past_all
      ∙ joined_place past_all count t mask_products 0 lt (omega (arith, here))
      ∙ ap (λ b. slice_index_or (product_of b t) 0 past_all) e

  -- the numbers in turn
  pub turn_first : s.ahead ≡ false → (t : ℕ) → first_of_masks s t ≡ 3 * prepared_before s t
  turn_first e t = cond-false s.ahead (2 * prepared_before s t) (3 * prepared_before s t) e

  pub turn_product : s.ahead ≡ false → (t : ℕ) → mask_product_number s t ≡ 3 * prepared_before s t + 2
  turn_product e t = cond-false s.ahead (2 * prepared_before s count + prepared_before s t) (3 * prepared_before s t + 2) e

  -- and ahead
  pub ahead_first : s.ahead ≡ true → (t : ℕ) → first_of_masks s t ≡ 2 * prepared_before s t
  ahead_first e t = cond-true s.ahead (2 * prepared_before s t) (3 * prepared_before s t) e

  pub ahead_product : s.ahead ≡ true → (t : ℕ) → mask_product_number s t ≡ 2 * prepared_before s count + prepared_before s t
  ahead_product e t = cond-true s.ahead (2 * prepared_before s count + prepared_before s t) (3 * prepared_before s t + 2) e

  mask_slot : (t i : ℕ) → t < count → is_prepared s t ≡ true → i < 2 → session_slot s (first_of_masks s t + i) ≡ slice_index_or (masks_of true t) i past_all
  mask_slot t i lt e li = elim (cases_Bool s.ahead) [
    | inl early ↦ ap (λ n. session_slot s (n + i)) (ahead_first early t) ∙ mask_at early t i lt e li
    | inr late ↦ ap (λ n. session_slot s (n + i)) (turn_first late t) ∙ turn_at late t i lt e (omega (arith, li)) ∙ same i li
  ]
    where
      same : (i : ℕ) → i < 2 → slice_index_or (turn_of_masks true t) i past_all ≡ slice_index_or (masks_of true t) i past_all
      same zero l = refl
      same (suc zero) l = refl
      same (suc (suc n)) l = absurd (omega (arith, l))

  product_slot : (t : ℕ) → t < count → is_prepared s t ≡ true → session_slot s (mask_product_number s t) ≡ Mask_product t
  product_slot t lt e = elim (cases_Bool s.ahead) [
    | inl early ↦ ap (session_slot s) (ahead_product early t) ∙ product_at early t lt e
    | inr late ↦ ap (session_slot s) (turn_product late t) ∙ turn_at late t 2 lt e (omega arith)
  ]

  -- ---- the masks of a product stand before their product, and that before the inputs

  pub masks_before_product : (t : ℕ) → t < count → is_prepared s t ≡ true → first_of_masks s t + 1 < mask_product_number s t
  masks_before_product t lt e =
      let more = more_before t count lt in
      let one = one_more t e in
      elim (cases_Bool s.ahead) [
        | inl early ↦ omega (arith, ahead_first early t, ahead_product early t, more, one)
        | inr late ↦ omega (arith, turn_first late t, turn_product late t)
      ]

  pub product_before_inputs : (t : ℕ) → t < count → is_prepared s t ≡ true → mask_product_number s t < first_input s
  product_before_inputs t lt e =
      let more = more_before t count lt in
      let one = one_more t e in
      elim (cases_Bool s.ahead) [
        | inl early ↦ omega (arith, ahead_product early t, more, one)
        | inr late ↦ omega (arith, turn_product late t, more, one)
      ]

  gate_at : (t i : ℕ) → t < count → i < length (turn t) → session_slot s (first_of_gate s t + i) ≡ slice_index_or (turn t) i past_all
  gate_at t i lt li =
      let before : ℕ = total t (λ u. length (turn u)) in
      let within = total_within count t (λ u. length (turn u)) lt in
      let same : first_of_gate s t + i ≡ first_input s + length (owners s) + (before + i) = omega (arith, turns_long t) in
      ap (session_slot s) same
      ∙ behind_inputs (before + i)
      ∙ get_or-append (gate_slots s) from_outputs past_all (before + i) (omega (arith, within, length-joined count turn, li))
      ∙ joined_place past_all count t turn i lt li

  masked_at : (t i : ℕ) → t < count → is_prepared s t ≡ true → i < 2 → session_slot s (first_of_gate s t + i) ≡ slice_index_or (gate_of true t) i past_all
  masked_at t i lt e li =
      let here : length (turn t) ≡ 3 = ap (λ b. length (gate_of b t)) e in
      gate_at t i lt (omega (arith, here, li)) ∙ ap (λ b. slice_index_or (gate_of b t) i past_all) e

  pub slot_there : (z : Slot) → Inside s z → session_slot s (session_slot_number s z) ≡ z
  slot_there (Mask t First) i = ap (session_slot s) (omega arith) ∙ mask_slot t 0 i.0 i.1 (omega arith)
  slot_there (Mask t Second) i = mask_slot t 1 i.0 i.1 (omega arith)
  slot_there (Mask_product t) i = product_slot t i.0 i.1
  slot_there (Input v) l = behind_masks v ∙ get_or-append inputs from_gates past_all v (omega (arith, l, all_inputs)) ∙ listed_at (length (owners s)) (λ v. Input v) v past_all l
  slot_there (Masked t First) i = ap (session_slot s) (omega arith) ∙ masked_at t 0 i.0 i.1 (omega arith)
  slot_there (Masked t Second) i = masked_at t 1 i.0 i.1 (omega arith)
  slot_there (At_gate t) l = gate_at t (step_of (is_prepared s t)) l (last_within (is_prepared s t) t) ∙ at_last (is_prepared s t) t past_all
  slot_there (Output o) l = behind_gates o ∙ get_or-append outputs kept past_all o (omega (arith, l, all_outputs)) ∙ listed_at (length (readers s)) (λ o. Output o) o past_all l
  slot_there (Kept j) l =
      let same : first_of_gate s count + length (readers s) + j ≡ first_of_gate s count + (length outputs + j) = omega (arith, all_outputs) in
      ap (session_slot s) same ∙ behind_gates (length outputs + j) ∙ get_or-append-add outputs kept j past_all ∙ listed_at (length s.kept) (λ j. Kept j) j past_all l

  -- past the last slot
  pub slot_past : (k : ℕ) → session_slots s ≤ k → session_slot s k ≡ past_all
  slot_past k past = get_or_past (slot_list s) k past_all past

  -- which is not there
  pub number_within : (z : Slot) → Inside s z → session_slot_number s z < session_slots s
  number_within z i = elim (cases_lt (session_slot_number s z) (session_slots s)) [
    | inl l ↦ l
    | inr past ↦ absurd (let none : Inside s past_all = subst (Inside s) (sym (slot_there z i) ∙ slot_past (session_slot_number s z) past) i in omega (arith, none))
  ]

  -- ---- each number is one slot's

  -- the slot with this number
  record IsOf (k : ℕ) : Type 0 where
    kind : Slot
    inside : Inside s kind
    number : session_slot_number s kind ≡ k

  of_turn_of_masks : s.ahead ≡ false → (t i : ℕ) → t < count → i < length (turns t) → IsOf (3 * prepared_before s t + i)
  of_turn_of_masks late t i lt li = elim (cases_Bool (is_prepared s t)) [
    | inr none ↦ absurd (let short : length (turns t) ≡ 0 = ap (λ b. length (turn_of_masks b t)) none in omega (arith, short, li))
    | inl e ↦ by_place i (let here : length (turns t) ≡ 3 = ap (λ b. length (turn_of_masks b t)) e in omega (arith, here, li)) (lt, e)
  ]
    where
      by_place : (i : ℕ) → i < 3 → (t < count) × (is_prepared s t ≡ true) → IsOf (3 * prepared_before s t + i)
      by_place zero l i = record { kind = Mask t First; inside = i; number = omega (arith, turn_first late t) }
      by_place (suc zero) l i = record { kind = Mask t Second; inside = i; number = omega (arith, turn_first late t) }
      by_place (suc (suc zero)) l i = record { kind = Mask_product t; inside = i; number = turn_product late t }
      by_place (suc (suc (suc n))) l i = absurd (omega (arith, l))

  of_masks : s.ahead ≡ true → (t i : ℕ) → t < count → i < length (masks t) → IsOf (2 * prepared_before s t + i)
  of_masks early t i lt li = elim (cases_Bool (is_prepared s t)) [
    | inr none ↦ absurd (let short : length (masks t) ≡ 0 = ap (λ b. length (masks_of b t)) none in omega (arith, short, li))
    | inl e ↦ by_place i (let here : length (masks t) ≡ 2 = ap (λ b. length (masks_of b t)) e in omega (arith, here, li)) (lt, e)
  ]
    where
      by_place : (i : ℕ) → i < 2 → (t < count) × (is_prepared s t ≡ true) → IsOf (2 * prepared_before s t + i)
      by_place zero l i = record { kind = Mask t First; inside = i; number = omega (arith, ahead_first early t) }
      by_place (suc zero) l i = record { kind = Mask t Second; inside = i; number = omega (arith, ahead_first early t) }
      by_place (suc (suc n)) l i = absurd (omega (arith, l))

  of_product : s.ahead ≡ true → (t i : ℕ) → t < count → i < length (mask_products t) → IsOf (2 * prepared_before s count + (prepared_before s t + i))
  of_product early t i lt li = elim (cases_Bool (is_prepared s t)) [
    | inr none ↦ absurd (let short : length (mask_products t) ≡ 0 = ap (λ b. length (product_of b t)) none in omega (arith, short, li))
    | inl e ↦ record {
      kind = Mask_product t;
      inside = (lt, e);
      number = (let here : length (mask_products t) ≡ 1 = ap (λ b. length (product_of b t)) e in omega (arith, here, li, ahead_product early t));
    }
  ]

  -- those before the inputs
  of_prepared : (k : ℕ) → k < first_input s → IsOf k
  of_prepared k l = elim (cases_Bool s.ahead) [
    | inr late ↦
        let at = locate count turns k (omega (arith, l, just_turns)) in
        subst IsOf {x = 3 * prepared_before s at.part + at.place} (let is = at.is in omega (arith, is, all_turns_long at.part)) (of_turn_of_masks late at.part at.place at.there at.within)
    | inl early ↦ elim (cases_lt k (length (mask_slots s))) [
      | inl low ↦
          let at = locate count masks k (omega (arith, low)) in
          subst IsOf {x = 2 * prepared_before s at.part + at.place} (let is = at.is in omega (arith, is, masks_long at.part)) (of_masks early at.part at.place at.there at.within)
      | inr past ↦
          let at = locate count mask_products (k - length (mask_slots s)) (omega (arith, l, past, just_masks, just_products)) in
          subst IsOf {x = 2 * prepared_before s count + (prepared_before s at.part + at.place)} (let is = at.is in omega (arith, is, products_long at.part, just_masks, past)) (of_product early at.part at.place at.there at.within)
    ]
  ]

  of_turn : (t i : ℕ) → t < count → i < length (turn t) → IsOf (first_of_gate s t + i)
  of_turn t i lt li = elim (cases_Bool (is_prepared s t)) [
    | inr e ↦
        let here : length (turn t) ≡ 1 = ap (λ b. length (gate_of b t)) e in
        record { kind = At_gate t; inside = lt; number = (let none = ap step_of e in omega (arith, here, li, none)) }
    | inl e ↦ by_place i (let here : length (turn t) ≡ 3 = ap (λ b. length (gate_of b t)) e in omega (arith, here, li)) (lt, e)
  ]
    where
      by_place : (i : ℕ) → i < 3 → (t < count) × (is_prepared s t ≡ true) → IsOf (first_of_gate s t + i)
      by_place zero l i = record { kind = Masked t First; inside = i; number = omega arith }
      by_place (suc zero) l i = record { kind = Masked t Second; inside = i; number = omega arith }
      by_place (suc (suc zero)) l i = record { kind = At_gate t; inside = i.0; number = (let two = ap step_of i.1 in omega (arith, two)) }
      by_place (suc (suc (suc n))) l i = absurd (omega (arith, l))

  number_of : (k : ℕ) → k < session_slots s → IsOf k
  number_of k l = elim (cases_lt k (first_input s)) [
    | inl before ↦ of_prepared k before
    | inr past ↦ elim (cases_lt k (first_input s + length (owners s))) [
      | inl input ↦ record { kind = Input (k - first_input s); inside = omega (arith, past, input); number = omega (arith, past) }
      | inr over ↦ elim (cases_lt k (first_of_gate s count)) [
        | inl turned ↦
            let at = locate count turn (k - first_input s - length (owners s)) (omega (arith, turned, over, all_turns)) in
            subst IsOf {x = first_of_gate s at.part + at.place} (let is = at.is in omega (arith, is, turns_long at.part, over)) (of_turn at.part at.place at.there at.within)
        | inr last ↦ elim (cases_lt k (first_of_gate s count + length (readers s))) [
          | inl output ↦ record { kind = Output (k - first_of_gate s count); inside = omega (arith, last, output); number = omega (arith, last) }
          | inr behind ↦ record { kind = Kept (k - first_of_gate s count - length (readers s)); inside = omega (arith, behind, l, slot_count); number = omega (arith, behind) }
        ]
      ]
    ]
  ]

  -- what holds of each slot at its number holds of each number
  pub slot_kinds : (P : ℕ → Slot → Type 0) → ((z : Slot) → Inside s z → P (session_slot_number s z) z) → (k : ℕ) → k < session_slots s → P k (session_slot s k)
  slot_kinds P each k l =
      let of = number_of k l in
      subst (λ n. P n (session_slot s n)) of.number
      (subst (P (session_slot_number s of.kind)) (sym (slot_there of.kind of.inside)) (each of.kind of.inside))

  pub slots_are_numbered : SlotsAreNumbered s
  slots_are_numbered = record {
    inside = slot_kinds (λ k z. Inside s z) (λ z i. i);
    number = slot_kinds (λ k z. session_slot_number s z ≡ k) (λ z i. refl);
    there = λ z i. (number_within z i, slot_there z i);
    count = slot_count;
  }

  -- ---- sessions with prepared products

  -- then all products are
  pub all_prepared : s.prepared ≡ true → prepared_before s count ≡ products s
  all_prepared e =
      total_eq count _ _ (λ u l. ap (λ b. one_if (b && is_product (gate s u).operation)) e)
      ∙ total_count (λ (g : Gate). is_product g.operation) s.gates no_gate

  -- ---- sessions without prepared products

  pub none_prepared : s.prepared ≡ false → (t : ℕ) → is_prepared s t ≡ false
  none_prepared direct t = ap (λ b. b && is_product (gate s t).operation) direct

  pub none_before : s.prepared ≡ false → (t : ℕ) → prepared_before s t ≡ 0
  none_before direct t = total_zero t _ (λ u l. ap (λ b. one_if b) (none_prepared direct u))

  pub direct_count : s.prepared ≡ false → session_slots s ≡ length (owners s) + length s.gates + length (readers s) + length s.kept
  direct_count direct = omega (arith, slot_count, none_before direct count)

  -- the numbers of its slots
  input_number : s.prepared ≡ false → (v : ℕ) → session_slot_number s (Input v) ≡ v
  input_number direct v = omega (arith, none_before direct count)

  gate_number : s.prepared ≡ false → (t : ℕ) → session_slot_number s (At_gate t) ≡ length (owners s) + t
  gate_number direct t =
      let none = ap step_of (none_prepared direct t) in
      omega (arith, none, none_before direct count, none_before direct t)

  output_number : s.prepared ≡ false → (o : ℕ) → session_slot_number s (Output o) ≡ length (owners s) + length s.gates + o
  output_number direct o = omega (arith, none_before direct count)

  kept_number : s.prepared ≡ false → (j : ℕ) → session_slot_number s (Kept j) ≡ length (owners s) + length s.gates + length (readers s) + j
  kept_number direct j = omega (arith, none_before direct count)

  pub slot_input : s.prepared ≡ false → (v : ℕ) → v < length (owners s) → session_slot s v ≡ Input v
  slot_input direct v l = ap (session_slot s) (sym (input_number direct v)) ∙ slot_there (Input v) l

  pub slot_gate : s.prepared ≡ false → (t : ℕ) → t < length s.gates → session_slot s (length (owners s) + t) ≡ At_gate t
  slot_gate direct t l = ap (session_slot s) (sym (gate_number direct t)) ∙ slot_there (At_gate t) l

  pub slot_output : s.prepared ≡ false → (o : ℕ) → o < length (readers s) → session_slot s (length (owners s) + length s.gates + o) ≡ Output o
  slot_output direct o l = ap (session_slot s) (sym (output_number direct o)) ∙ slot_there (Output o) l

  pub slot_kept : s.prepared ≡ false → (j : ℕ) → j < length s.kept → session_slot s (length (owners s) + length s.gates + length (readers s) + j) ≡ Kept j
  slot_kept direct j l = ap (session_slot s) (sym (kept_number direct j)) ∙ slot_there (Kept j) l

  pub slot_cases : s.prepared ≡ false → (P : ℕ → Slot → Type 0) → ((v : ℕ) → v < length (owners s) → P v (Input v)) → ((t : ℕ) → t < length s.gates → P (length (owners s) + t) (At_gate t))
      → ((o : ℕ) → o < length (readers s) → P (length (owners s) + length s.gates + o) (Output o))
      → ((j : ℕ) → j < length s.kept → P (length (owners s) + length s.gates + length (readers s) + j) (Kept j)) → (k : ℕ) → k < session_slots s → P k (session_slot s k)
  slot_cases direct P input at_gate output keep = slot_kinds P each
    where
      not_prepared : (t : ℕ) → is_prepared s t ≡ true → ⊥
      not_prepared t e = both_ways (is_prepared s t) (none_prepared direct t) e

      each : (z : Slot) → Inside s z → P (session_slot_number s z) z
      each (Input v) l = subst (λ n. P n (Input v)) (sym (input_number direct v)) (input v l)
      each (At_gate t) l = subst (λ n. P n (At_gate t)) (sym (gate_number direct t)) (at_gate t l)
      each (Output o) l = subst (λ n. P n (Output o)) (sym (output_number direct o)) (output o l)
      each (Mask t side) i = absurd (not_prepared t i.1)
      each (Mask_product t) i = absurd (not_prepared t i.1)
      each (Masked t side) i = absurd (not_prepared t i.1)
      each (Kept j) l = subst (λ n. P n (Kept j)) (sym (kept_number direct j)) (keep j l)
