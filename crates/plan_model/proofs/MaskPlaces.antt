-- Where the words of masks stand on a tape: at the head of their session.
use Rattle.std.proofs.Common.{◌≡◌, ℕ, zero, suc, ◌+◌, ◌-◌, ◌*◌, ◌/◌, ◌%◌, ◌<◌, ◌≤◌, true, false, if◌then◌else◌, length, refl, sym, ap, ap₂, ◌∙◌, subst, arith}
use Rattle.std.proofs.lemmas.Bool.{cases_Bool, both_ways}
use mathlib.Core.Logic.{inl, inr}
use Rattle.list_laws.specs.Lists.{total}
use Rattle.list_laws.proofs.Totals.{total_more}
use Rattle.secret_sharing.specs.Schemes.{has_pair}
use Rattle.session_slots.specs.declared.side.Side.TheVariants.{First, Second}
use Rattle.session_slots.specs.Sessions.{Session, Slot, is_prepared}
use Rattle.session_slots.specs.Sessions.Slot.{Input, At_gate, Output, Mask, Mask_product, Masked, Kept}
use Rattle.session_slots.specs.SoundSessions.{Inside}
use Rattle.session_slots.specs.SlotNumbers.{prepared_before}
use Rattle.session_slots.proofs.SessionSlots.{ahead_first, slot_kinds, slots_are_numbered, turn_first, turn_product}
use Rattle.plan_model.specs.Plans.{Plan, session, scheme, slot, slots, slot_number, least_held, words_in, place}
use Rattle.plan_model.specs.Numbers.{is_mask}

-- what stands at its number
pub slot_there : (plan : Plan) (s : ℕ) (z : Slot) → Inside (session plan s) z → slot plan s (slot_number plan s z) ≡ z
slot_there plan s z inside = ((slots_are_numbered (session plan s)).there z inside).1

-- a sum over the slots before the inputs
module _ (plan : Plan) (s : ℕ) (f : Slot → ℕ) where
  abbrev x : Session
  x = session plan s

  abbrev sum_to : ℕ → ℕ
  sum_to k = total k (λ j. f (slot plan s j))

  next_sum : (z : Slot) → Inside x z → (k : ℕ) → slot_number plan s z ≡ k → sum_to (k + 1) ≡ sum_to k + f z
  next_sum z inside k is =
      subst (λ k. sum_to (k + 1) ≡ sum_to k + f z) is
      (omega (arith, total_more (slot_number plan s z) (λ j. f (slot plan s j)), ap f (slot_there plan s z inside)))

  -- in which each prepared product has the same part, its masks in turn with their product
  module _ (late : x.ahead ≡ false) (each : ℕ) (triple : (t : ℕ) → f (Mask t First) + f (Mask t Second) + f (Mask_product t) ≡ each) where
    pub sum_of_triples : (t : ℕ) → t ≤ length x.gates → sum_to (3 * prepared_before x t) ≡ prepared_before x t * each
    sum_of_triples zero l = omega arith
    sum_of_triples (suc t) l =
        let n = prepared_before x t in
        let before = sum_of_triples t (omega arith) in
        elim (cases_Bool (is_prepared x t)) [
          | inl e ↦
              let more : prepared_before x (suc t) ≡ n + 1 = ap (λ b. n + (if b then 1 else 0)) e in
              let inside : (t < length x.gates) × (is_prepared x t ≡ true) = (omega arith, e) in
              let first = next_sum (Mask t First) inside (3 * n) (turn_first x late t) in
              let second = next_sum (Mask t Second) inside (3 * n + 1) (omega (arith, turn_first x late t)) in
              let third = next_sum (Mask_product t) inside (3 * n + 2) (turn_product x late t) in
              let one : 3 * n + 1 + 1 ≡ 3 * n + 2 = omega arith in
              let two : 3 * n + 2 + 1 ≡ 3 * (n + 1) = omega arith in
              let sum : n * each + each ≡ (n + 1) * each = omega arith in
              ap (λ m. sum_to (3 * m)) more
              ∙ omega (arith, before, first, second, third, triple t, sum, ap sum_to one, ap sum_to two)
              ∙ ap (λ m. m * each) (sym more)
          | inr e ↦
              let same : prepared_before x (suc t) ≡ n = ap (λ b. n + (if b then 1 else 0)) e ∙ omega arith in
              ap (λ m. sum_to (3 * m)) same ∙ before ∙ ap (λ m. m * each) (sym same)
        ]

    -- up to the slot of a mask's partner, and to that of the product of both
    pub sum_to_second : (t : ℕ) → t < length x.gates → is_prepared x t ≡ true → sum_to (3 * prepared_before x t + 1) ≡ prepared_before x t * each + f (Mask t First)
    sum_to_second t l e = omega (arith, sum_of_triples t (omega (arith, l)), next_sum (Mask t First) (l, e) (3 * prepared_before x t) (turn_first x late t))

    pub sum_to_product : (t : ℕ) → t < length x.gates → is_prepared x t ≡ true → sum_to (3 * prepared_before x t + 2) ≡ prepared_before x t * each + f (Mask t First) + f (Mask t Second)
    sum_to_product t l e =
        let n = prepared_before x t in
        let one : 3 * n + 1 + 1 ≡ 3 * n + 2 = omega arith in
        omega (arith, sum_to_second t l e, next_sum (Mask t Second) (l, e) (3 * n + 1) (omega (arith, turn_first x late t)), ap sum_to one)

  -- in which the masks of all come ahead, and those of each prepared product have the same part
  module _ (early : x.ahead ≡ true) (each : ℕ) (pair : (t : ℕ) → f (Mask t First) + f (Mask t Second) ≡ each) where
    pub sum_of_pairs : (t : ℕ) → t ≤ length x.gates → sum_to (2 * prepared_before x t) ≡ prepared_before x t * each
    sum_of_pairs zero l = omega arith
    sum_of_pairs (suc t) l =
        let n = prepared_before x t in
        let before = sum_of_pairs t (omega arith) in
        elim (cases_Bool (is_prepared x t)) [
          | inl e ↦
              let more : prepared_before x (suc t) ≡ n + 1 = ap (λ b. n + (if b then 1 else 0)) e in
              let inside : (t < length x.gates) × (is_prepared x t ≡ true) = (omega arith, e) in
              let first = next_sum (Mask t First) inside (2 * n) (ahead_first x early t) in
              let second = next_sum (Mask t Second) inside (2 * n + 1) (omega (arith, ahead_first x early t)) in
              let two : 2 * n + 1 + 1 ≡ 2 * (n + 1) = omega arith in
              let sum : n * each + each ≡ (n + 1) * each = omega arith in
              ap (λ m. sum_to (2 * m)) more
              ∙ omega (arith, before, first, second, pair t, sum, ap sum_to two)
              ∙ ap (λ m. m * each) (sym more)
          | inr e ↦
              let same : prepared_before x (suc t) ≡ n = ap (λ b. n + (if b then 1 else 0)) e ∙ omega arith in
              ap (λ m. sum_to (2 * m)) same ∙ before ∙ ap (λ m. m * each) (sym same)
        ]

    pub sum_to_other : (t : ℕ) → t < length x.gates → is_prepared x t ≡ true → sum_to (2 * prepared_before x t + 1) ≡ prepared_before x t * each + f (Mask t First)
    sum_to_other t l e = omega (arith, sum_of_pairs t (omega (arith, l)), next_sum (Mask t First) (l, e) (2 * prepared_before x t) (ahead_first x early t))

module _ (plan : Plan) (p s : ℕ) where
  abbrev held : ℕ
  held = least_held plan p (length plan.groups)

  abbrev for_deal : ℕ
  for_deal = if has_pair (scheme plan) p then length plan.groups - 1 else 0

  -- how many words p draws for a prepared product before the inputs
  abbrev each_product : ℕ
  each_product = 2 * held + for_deal

  no_mask : {A : Type 0} → false ≡ true → A
  no_mask e = absurd (both_ways false refl e)

  -- in turn there are three slots before the inputs for each product, of which the first two are masks
  masks_at : (session plan s).ahead ≡ false → (k : ℕ) → k < slots plan s → is_mask (slot plan s k) ≡ true → place plan p s k ≡ place plan p s 0 + k / 3 * each_product + k % 3 * held
  masks_at late = slot_kinds (session plan s) (λ k z. is_mask z ≡ true → place plan p s k ≡ place plan p s 0 + k / 3 * each_product + k % 3 * held) at
    where
      triple : (t : ℕ) → held + held + for_deal ≡ each_product
      triple t = omega arith

      at_number : (k j : ℕ) → k ≡ j → place plan p s j ≡ place plan p s 0 + j / 3 * each_product + j % 3 * held → place plan p s k ≡ place plan p s 0 + k / 3 * each_product + k % 3 * held
      at_number k j is = subst (λ j. place plan p s j ≡ place plan p s 0 + j / 3 * each_product + j % 3 * held) (sym is)

      at : (z : Slot) → Inside (session plan s) z → is_mask z ≡ true → place plan p s (slot_number plan s z) ≡ place plan p s 0 + slot_number plan s z / 3 * each_product + slot_number plan s z % 3 * held
      at (Mask t First) inside e =
          let n = prepared_before (session plan s) t in
          let part : 3 * n / 3 ≡ n = omega arith in
          let rest : 3 * n % 3 ≡ 0 = omega arith in
          let before = sum_of_triples plan s (words_in plan s p) late each_product triple t (omega (arith, inside.0)) in
          at_number _ (3 * n) (turn_first (session plan s) late t) (omega (arith, before, ap (λ m. m * each_product) part, ap (λ m. m * held) rest))
      at (Mask t Second) inside e =
          let n = prepared_before (session plan s) t in
          let part : (3 * n + 1) / 3 ≡ n = omega arith in
          let rest : (3 * n + 1) % 3 ≡ 1 = omega arith in
          let before = sum_to_second plan s (words_in plan s p) late each_product triple t inside.0 inside.1 in
          at_number _ (3 * n + 1) (ap (λ m. m + 1) (turn_first (session plan s) late t)) (omega (arith, before, ap (λ m. m * each_product) part, ap (λ m. m * held) rest))
      at (Input v) inside e = no_mask e
      at (At_gate t) inside e = no_mask e
      at (Output o) inside e = no_mask e
      at (Mask_product t) inside e = no_mask e
      at (Masked t side) inside e = no_mask e
      at (Kept j) inside e = no_mask e

  -- ahead there is nothing else before a mask
  masks_ahead : (session plan s).ahead ≡ true → (k : ℕ) → k < slots plan s → is_mask (slot plan s k) ≡ true → place plan p s k ≡ place plan p s 0 + k * held
  masks_ahead early = slot_kinds (session plan s) (λ k z. is_mask z ≡ true → place plan p s k ≡ place plan p s 0 + k * held) at
    where
      pair : (t : ℕ) → held + held ≡ 2 * held
      pair t = omega arith

      at_number : (k j : ℕ) → k ≡ j → place plan p s j ≡ place plan p s 0 + j * held → place plan p s k ≡ place plan p s 0 + k * held
      at_number k j is = subst (λ j. place plan p s j ≡ place plan p s 0 + j * held) (sym is)

      at : (z : Slot) → Inside (session plan s) z → is_mask z ≡ true → place plan p s (slot_number plan s z) ≡ place plan p s 0 + slot_number plan s z * held
      at (Mask t First) inside e =
          let n = prepared_before (session plan s) t in
          let before = sum_of_pairs plan s (words_in plan s p) early (2 * held) pair t (omega (arith, inside.0)) in
          let same : n * (2 * held) ≡ 2 * n * held = omega arith in
          at_number _ (2 * n) (ahead_first (session plan s) early t) (omega (arith, before, same))
      at (Mask t Second) inside e =
          let n = prepared_before (session plan s) t in
          let before = sum_to_other plan s (words_in plan s p) early (2 * held) pair t inside.0 inside.1 in
          let same : n * (2 * held) + held ≡ (2 * n + 1) * held = omega arith in
          at_number _ (2 * n + 1) (ap (λ m. m + 1) (ahead_first (session plan s) early t)) (omega (arith, before, same))
      at (Input v) inside e = no_mask e
      at (At_gate t) inside e = no_mask e
      at (Output o) inside e = no_mask e
      at (Mask_product t) inside e = no_mask e
      at (Masked t side) inside e = no_mask e
      at (Kept j) inside e = no_mask e

  -- where p draws so many words for a mask, and so many for a product
  pub mask_place : (k for_mask for_product : ℕ) → (session plan s).ahead ≡ false → k < slots plan s → is_mask (slot plan s k) ≡ true → for_mask ≡ least_held plan p (length plan.groups)
      → for_product ≡ (if has_pair (scheme plan) p then length plan.groups - 1 else 0) → place plan p s k ≡ place plan p s 0 + k / 3 * (2 * for_mask + for_product) + k % 3 * for_mask
  mask_place k for_mask for_product late lk e masks products = masks_at late k lk e ∙ sym (ap₂ (λ m n. place plan p s 0 + k / 3 * (2 * m + n) + k % 3 * m) masks products)

  pub mask_place_ahead : (k for_mask : ℕ) → (session plan s).ahead ≡ true → k < slots plan s → is_mask (slot plan s k) ≡ true → for_mask ≡ least_held plan p (length plan.groups)
      → place plan p s k ≡ place plan p s 0 + k * for_mask
  mask_place_ahead k for_mask early lk e masks = masks_ahead early k lk e ∙ sym (ap (λ m. place plan p s 0 + k * m) masks)
