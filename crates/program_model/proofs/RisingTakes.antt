-- The numbers that a program takes in a slot rise.
use Rattle.std.proofs.Common.{◌≡◌, ℕ, zero, suc, ◌+◌, ◌<◌, ◌≤◌, Bool, true, false, List, [], ◌∷◌, ◌++◌, map, sym, subst, arith}
use Rattle.std.specs.List.{range_with_len, filter}
use Rattle.std.proofs.lemmas.Bool.{cases_Bool, cond-true, cond-false}
use mathlib.Core.Logic.{inl, inr}
use Rattle.list_laws.specs.Lists.{only_if}
use Rattle.session_slots.specs.declared.source.Source.{Source}
use Rattle.session_slots.specs.declared.source.Source.TheVariants.{Given, Earlier}
use Rattle.session_slots.specs.Sessions.{Slot, is_direct, is_prepared, source}
use Rattle.session_slots.specs.Sessions.Slot.{Input, At_gate, Output, Mask, Mask_product, Masked, Kept}
use Rattle.plan_model.specs.Plans.{Plan, keeping_slot, session, slot}
use Rattle.plan_model.specs.Firsts.{count, first, numbers}
use Rattle.party_set.specs.Parties.{has_party}
use Rattle.program_model.specs.declared.instruction.Instruction.{Instruction}
use Rattle.program_model.specs.declared.instruction.Instruction.TheVariants.{Draw, Deal, Post, Take, Linear, Own, Sum, Open, Join, Deliver, End}
use Rattle.program_model.specs.Programs.{at, to, take_of, closing, takes, taken_in, input_taken, tail}

-- the next number that may be taken after an instruction
abbrev pub following : ℕ → Instruction → ℕ
following lo (Take n i) = n + 1
following lo _ = lo

abbrev pub May : ℕ → Instruction → Type 0
May lo (Take n i) = lo ≤ n
May lo _ = Unit {0}

-- the numbers of takes rise, from lo to below hi
abbrev pub TakesRise : ℕ → ℕ → List Instruction → Type 0
TakesRise lo hi [] = lo ≤ hi
TakesRise lo hi (x ∷ xs) = May lo x × TakesRise (following lo x) hi xs

may_lower : (lo low : ℕ) (x : Instruction) → low ≤ lo → May lo x → May low x × (following low x ≤ following lo x)
may_lower lo low (Take n i) l h = (omega arith, omega arith)
may_lower lo low (Draw k) l h = (tt, l)
may_lower lo low (Deal k d) l h = (tt, l)
may_lower lo low (Post k d) l h = (tt, l)
may_lower lo low (Linear k) l h = (tt, l)
may_lower lo low (Own k) l h = (tt, l)
may_lower lo low (Sum k) l h = (tt, l)
may_lower lo low (Open k) l h = (tt, l)
may_lower lo low (Join k) l h = (tt, l)
may_lower lo low (Deliver k) l h = (tt, l)
may_lower lo low End l h = (tt, l)

lower : (lo low hi : ℕ) (xs : List Instruction) → low ≤ lo → TakesRise lo hi xs → TakesRise low hi xs
lower lo low hi [] l h = omega arith
lower lo low hi (x ∷ xs) l h = let a = may_lower lo low x l h.0 in (a.0, lower (following lo x) (following low x) hi xs a.1 h.1)

append : (lo mid hi : ℕ) (xs ys : List Instruction) → TakesRise lo mid xs → TakesRise mid hi ys → TakesRise lo hi (xs ++ ys)
append lo mid hi [] ys h k = lower mid lo hi ys h k
append lo mid hi (x ∷ xs) ys h k = (h.0, append (following lo x) mid hi xs ys h.1 k)

none : (lo : ℕ) (b : Bool) (xs : List Instruction) → TakesRise lo lo xs → TakesRise lo lo (only_if b xs)
none lo true xs h = h
none lo false xs h = omega arith

of_takes : (plan : Plan) (test : ℕ → Bool) (a n : ℕ) → TakesRise a (a + n) (map (take_of plan) (filter test (range_with_len a n)))
of_takes plan test a zero = omega arith
of_takes plan test a (suc n) =
    let same : a + 1 + n ≡ a + suc n = omega arith in
    let rest : TakesRise (a + 1) (a + suc n) (map (take_of plan) (filter test (range_with_len (a + 1) n))) = subst (λ z. TakesRise (a + 1) z (map (take_of plan) (filter test (range_with_len (a + 1) n)))) same (of_takes plan test (a + 1) n) in
    elim (cases_Bool (test a)) [
      | inl e ↦ subst (λ xs. TakesRise a (a + suc n) (map (take_of plan) xs)) (sym (cond-true (test a) (a ∷ filter test (range_with_len (a + 1) n)) (filter test (range_with_len (a + 1) n)) e)) (omega arith, rest)
      | inr e ↦ subst (λ xs. TakesRise a (a + suc n) (map (take_of plan) xs)) (sym (cond-false (test a) (a ∷ filter test (range_with_len (a + 1) n)) (filter test (range_with_len (a + 1) n)) e)) (lower (a + 1) a (a + suc n) _ (omega arith) rest)
    ]

module _ (plan : Plan) (s p : ℕ) where
  of_closing : (lo k : ℕ) (z : Slot) → TakesRise lo lo (closing plan p s k z)
  of_closing lo k (Input v) = omega arith
  of_closing lo k (At_gate t) =
      append lo lo lo _ _ (none lo (is_direct (session plan s) t) (Sum k ∷ []) (tt, omega arith)) (none lo (is_prepared (session plan s) t) (Join k ∷ []) (tt, omega arith))
  of_closing lo k (Output o) = none lo (has_party _ p) (Deliver k ∷ []) (tt, omega arith)
  of_closing lo k (Mask t side) = omega arith
  of_closing lo k (Mask_product t) = (tt, omega arith)
  of_closing lo k (Masked t side) = (tt, omega arith)
  of_closing lo k (Kept j) = omega arith

  of_own : (k : ℕ) → (lo : ℕ) × (hi : ℕ) × TakesRise lo hi (map (take_of plan) (filter (to plan p) (numbers plan s k)))
  of_own k = (first plan s k, first plan s k + count plan s k, of_takes plan (to plan p) (first plan s k) (count plan s k))

  of_input : (k v : ℕ) (from : Source) → (lo : ℕ) × (hi : ℕ) × TakesRise lo hi (map (take_of plan) (filter (to plan p) (input_taken plan s k v from)))
  of_input k v (Given q) = of_own k
  of_input k v (Earlier r c i) =
      let m = keeping_slot plan s v r in
      (first plan r m, first plan r m + count plan r m, of_takes plan (to plan p) (first plan r m) (count plan r m))

  of_taken : (k : ℕ) (z : Slot) → (lo : ℕ) × (hi : ℕ) × TakesRise lo hi (map (take_of plan) (filter (to plan p) (taken_in plan s k z)))
  of_taken k (Input v) = of_input k v (source (session plan s) v)
  of_taken k (At_gate t) = of_own k
  of_taken k (Output o) = of_own k
  of_taken k (Mask t side) = of_own k
  of_taken k (Mask_product t) = of_own k
  of_taken k (Masked t side) = of_own k
  of_taken k (Kept j) = (0, 0, omega arith)

  of_tail : (k : ℕ) → (lo : ℕ) × (hi : ℕ) × TakesRise lo hi (tail plan p s k)
  of_tail k =
      let taken = of_taken k (slot plan s k) in
      (taken.0, taken.1, append taken.0 taken.1 taken.1 (takes plan p s k) _ taken.2 (of_closing taken.1 k (slot plan s k)))

above : (lo hi : ℕ) (xs : List Instruction) (q n i : ℕ) → TakesRise lo hi xs → at xs q ≡ Take n i → lo ≤ n
above lo hi [] q n i h e = absurd (cc)
above lo hi (x ∷ xs) zero n i h e = subst (May lo) e h.0
above lo hi (x ∷ xs) (suc q) n i h e = let a = above (following lo x) hi xs q n i h.1 e in let b = more lo x h.0 in omega arith
  where
    more : (lo : ℕ) (x : Instruction) → May lo x → lo ≤ following lo x
    more lo (Take n i) h = omega arith
    more lo (Draw k) h = omega arith
    more lo (Deal k d) h = omega arith
    more lo (Post k d) h = omega arith
    more lo (Linear k) h = omega arith
    more lo (Own k) h = omega arith
    more lo (Sum k) h = omega arith
    more lo (Open k) h = omega arith
    more lo (Join k) h = omega arith
    more lo (Deliver k) h = omega arith
    more lo End h = omega arith

rising : (lo hi : ℕ) (xs : List Instruction) (p q n i m j : ℕ) → TakesRise lo hi xs → p < q → at xs p ≡ Take n i → at xs q ≡ Take m j → n < m
rising lo hi [] p q n i m j h l e f = absurd (cc)
rising lo hi (x ∷ xs) zero zero n i m j h l e f = absurd (omega arith)
rising lo hi (x ∷ xs) zero (suc q) n i m j h l e f = let a = above (n + 1) hi xs q m j (subst (λ y. TakesRise (following lo y) hi xs) e h.1) f in omega arith
rising lo hi (x ∷ xs) (suc p) zero n i m j h l e f = absurd (omega arith)
rising lo hi (x ∷ xs) (suc p) (suc q) n i m j h l e f = rising (following lo x) hi xs p q n i m j h.1 (omega arith) e f

pub takes_rise : (plan : Plan) (s p k q r n i m j : ℕ) → q < r → at (tail plan p s k) q ≡ Take n i → at (tail plan p s k) r ≡ Take m j → n < m
takes_rise plan s p k q r n i m j l e f = let rise = of_tail plan s p k in rising rise.0 rise.1 (tail plan p s k) q r n i m j rise.2 l e f
