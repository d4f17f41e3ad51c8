-- The count of a program's instructions is small.
use Rattle.std.proofs.Common.{◌≡◌, ℕ, zero, suc, ◌+◌, ◌*◌, ◌<◌, ◌≤◌, Bool, true, false, not, ◌&&◌, nat_lt, List, [], ◌∷◌, ◌++◌, map, length, refl, sym, subst, arith, length-append}
use Rattle.std.specs.List.{range_with_len, filter}
use Rattle.std.proofs.lemmas.Bool.{cases_Bool, cond-true, cond-false}
use mathlib.Core.Logic.{inl, inr}
use Rattle.list_laws.specs.Lists.{total, only_if}
use Rattle.circuit_model.specs.Circuits.{is_product}
use Rattle.secret_sharing.specs.Schemes.{has_pair}
use Rattle.session_slots.specs.declared.source.Source.{Source}
use Rattle.session_slots.specs.declared.source.Source.TheVariants.{Given, Earlier}
use Rattle.session_slots.specs.Sessions.{Slot, gate, source}
use Rattle.plan_model.specs.Plans.{Plan, scheme, session, slot, slots, deals_in, gives, keeping_slot, opens_to, least_held}
use Rattle.session_slots.specs.Sessions.Slot.{Input, At_gate, Output, Mask, Mask_product, Masked, Kept}
use Rattle.plan_model.specs.Numbers.{deals_before}
use Rattle.plan_model.specs.Firsts.{count, first, numbers}
use Rattle.plan_model.specs.Sound.{IsSound}
use Rattle.plan_model.proofs.PlanSchemes.{plan_is}
use Rattle.plan_model.proofs.SlotMessages.{first_within}
use Rattle.plan_model.proofs.Slots.{few_slots}
use Rattle.program_model.specs.declared.instruction.Instruction.{Instruction}
use Rattle.program_model.specs.declared.instruction.Instruction.TheVariants.{Draw, Deal, Own, Linear, Sum, Join, Deliver}
use Rattle.program_model.specs.Programs.{opening, closing, head, tail, posts, takes, slot_program, from, to, post, take_of, taken_in, input_taken, instructions_before}
use Rattle.plan_model.proofs.FewTransfers.{few_kept}

only_short : (b : Bool) (xs : List Instruction) → length (only_if b xs) ≤ length xs
only_short true xs = omega arith
only_short false xs = omega arith

-- what is made of the numbers that pass is no longer than the numbers
passing_short : (f : ℕ → Instruction) (test : ℕ → Bool) (a n : ℕ) → length (map f (filter test (range_with_len a n))) ≤ n
passing_short f test a zero = omega arith
passing_short f test a (suc n) =
    let rest = passing_short f test (a + 1) n in
    elim (cases_Bool (test a)) [
      | inl e ↦ subst (λ z. length (map f z) ≤ suc n) (sym (cond-true (test a) (a ∷ filter test (range_with_len (a + 1) n)) (filter test (range_with_len (a + 1) n)) e)) (omega arith)
      | inr e ↦ subst (λ z. length (map f z) ≤ suc n) (sym (cond-false (test a) (a ∷ filter test (range_with_len (a + 1) n)) (filter test (range_with_len (a + 1) n)) e)) (omega arith)
    ]

module _ (plan : Plan) (p s : ℕ) where
  opening_short : (k : ℕ) (z : Slot) → length (opening plan p s k z) ≤ 3
  opening_short k (Input v) = let short = only_short (gives plan s p v) (Deal k (deals_before plan p s k) ∷ []) in omega arith
  opening_short k (At_gate t) =
      let product = is_product (gate (session plan s) t).operation in
      let dealt = only_short (deals_in plan s p (At_gate t)) (Own k ∷ Deal k (deals_before plan p s k) ∷ []) in
      let linear = only_short (not product) (Linear k ∷ []) in
      let both = length-append (only_if (deals_in plan s p (At_gate t)) (Own k ∷ Deal k (deals_before plan p s k) ∷ [])) (only_if (not product) (Linear k ∷ [])) in
      omega arith
  opening_short k (Output o) = omega arith
  opening_short k (Mask t side) = let short = only_short (nat_lt 0 (least_held plan p (length plan.groups))) (Draw k ∷ []) in omega arith
  opening_short k (Mask_product t) = let short = only_short (has_pair (scheme plan) p) (Own k ∷ Deal k (deals_before plan p s k) ∷ []) in omega arith
  opening_short k (Masked t side) = omega arith
  opening_short k (Kept j) = omega arith

  closing_short : (k : ℕ) (z : Slot) → length (closing plan p s k z) ≤ 1
  closing_short k (Input v) = omega arith
  closing_short k (At_gate t) = gate_short (session plan s).prepared (is_product (gate (session plan s) t).operation)
    where
      gate_short : (prepared product : Bool) → length (only_if (not prepared && product) (Sum k ∷ []) ++ only_if (prepared && product) (Join k ∷ [])) ≤ 1
      gate_short true true = omega arith
      gate_short true false = omega arith
      gate_short false true = omega arith
      gate_short false false = omega arith
  closing_short k (Output o) = let short = only_short (opens_to plan s p (Output o)) (Deliver k ∷ []) in omega arith
  closing_short k (Mask t side) = omega arith
  closing_short k (Mask_product t) = omega arith
  closing_short k (Masked t side) = omega arith
  closing_short k (Kept j) = omega arith

  -- in a slot that is of this
  module _ (k : ℕ) (sound : IsSound plan) where
    own_short : length (map (take_of plan) (filter (to plan p) (numbers plan s k))) ≤ count plan s k + 768
    own_short = let short = passing_short (take_of plan) (to plan p) (first plan s k) (count plan s k) in omega arith

    input_short : (v : ℕ) (from : Source) → source (session plan s) v ≡ from → length (map (take_of plan) (filter (to plan p) (input_taken plan s k v from))) ≤ count plan s k + 768
    input_short v (Given q) e = own_short
    input_short v (Earlier r c i) e =
        let m = keeping_slot plan s v r in
        omega (arith, passing_short (take_of plan) (to plan p) (first plan r m) (count plan r m), few_kept plan (plan_is plan sound) sound s v r c i e)

    takes_short : (z : Slot) → length (map (take_of plan) (filter (to plan p) (taken_in plan s k z))) ≤ count plan s k + 768
    takes_short (Input v) = input_short v (source (session plan s) v) refl
    takes_short (At_gate t) = own_short
    takes_short (Output o) = own_short
    takes_short (Mask t side) = own_short
    takes_short (Mask_product t) = own_short
    takes_short (Masked t side) = own_short
    takes_short (Kept j) = omega arith

    slot_short : length (slot_program plan p s k) ≤ 2 * count plan s k + 772
    slot_short =
        let z : Slot = slot plan s k in
        let a = length-append (opening plan p s k z) (posts plan p s k) in
        let b = length-append (takes plan p s k) (closing plan p s k z) in
        let c = length-append (head plan p s k) (tail plan p s k) in
        let few_before = opening_short k z in
        let few_posts : length (posts plan p s k) ≤ count plan s k = passing_short (post plan) (from plan p) (first plan s k) (count plan s k) in
        let few_takes : length (takes plan p s k) ≤ count plan s k + 768 = takes_short z in
        let few_after = closing_short k z in
        omega arith

  program_short : (n : ℕ) → IsSound plan → instructions_before plan p s n ≤ 2 * total n (count plan s) + 772 * n
  program_short zero sound = omega arith
  program_short (suc n) sound = let here = slot_short n sound in let before = program_short n sound in omega arith

  -- the instructions of a plan within the limits fit into four bytes
  pub few_instructions : (k : ℕ) → IsSound plan → s < length plan.sessions → k ≤ slots plan s → instructions_before plan p s k < 4294967295
  few_instructions k sound ls lk =
      omega (arith, program_short k sound, first_within plan s k ls lk, sound.few_messages, few_slots (session plan s) (sound.sessions s ls).wired, lk)
