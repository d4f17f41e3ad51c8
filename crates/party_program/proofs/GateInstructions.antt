-- Where in a slot the instructions stand that compute something of a gate.
use Rattle.std.proofs.Common.{◌≡◌, ◌≢◌, ℕ, zero, suc, ◌+◌, ◌<◌, Bool, true, false, nat_eq, nat_lt, List, [], ◌∷◌, ◌++◌, map, length, refl, sym, ap, ◌∙◌, subst, inl, inr, arith}
use Rattle.std.specs.Prelude.{slice_index_or}
use Rattle.std.specs.List.{AllByRecursion, filter, enumerate_from}
use Rattle.std.proofs.lemmas.Bool.{cases_lt}
use Rattle.list_laws.specs.Lists.{only_if}
use Rattle.list_laws.proofs.JoinedLists.{every_append, every_only_if}
use Rattle.secret_sharing.specs.Schemes.{has_pair}
use Rattle.party_set.specs.Parties.{has_party}
use Rattle.plan_model.specs.declared.pattern.Transfer.{Transfer}
use Rattle.plan_model.specs.declared.pattern.Pattern.{Pattern}
use Rattle.plan_model.specs.declared.pattern.Pattern.TheVariants.{Silent, Dealt, Multiplied, Opened, HandedOut, OpenedToAll, Joined, Held, Received}
use Rattle.plan_model.specs.Plans.{IsPlan, Plan, scheme, slots, least_held}
use Rattle.plan_model.specs.Numbers.{deals_before}
use Rattle.plan_model.specs.Patterns.{transfers}
use Rattle.plan_model.proofs.DistinctMessages.{every_place}
use Rattle.program_model.specs.declared.half.Half.{Half}
use Rattle.program_model.specs.declared.half.Half.TheVariants.{Head, Tail}
use Rattle.party_program.specs.declared.place.Place.{Place}
use Rattle.program_model.specs.declared.instruction.Instruction.{Instruction}
use Rattle.program_model.specs.declared.instruction.Instruction.TheVariants as instruction
use Rattle.party_program.specs.declared.step.Step.{Step}
use Rattle.party_program.specs.declared.step.Step.TheVariants.{Draw, Deal, Own, Post, Take, Linear, Sum, Open, Join, Deliver}
use Rattle.program_model.specs.Programs.{first_named, program, at}
use Rattle.party_program.specs.PartySteps.{steps_before, steps_after, post_steps, take_steps, post_step, take_step, is_from, is_to, steps, taken_transfers, placed}
use Rattle.party_program.specs.ProgramPlaces.{IsPlace}
use Rattle.party_program.proofs.ProgramPlaces.{count_at, ends_there, in_slot, instruction_is, length-half, step_is}

abbrev NotLinear : Step → Type 0
NotLinear Linear = ⊥
NotLinear _ = Unit {0}

abbrev NotOwn : Step → Type 0
NotOwn Own = ⊥
NotOwn _ = Unit {0}

abbrev NotSum : Step → Type 0
NotSum Sum = ⊥
NotSum _ = Unit {0}

every_map : (P : Step → Type 0) (f : ℕ × Transfer → Step) (ys : List (ℕ × Transfer)) → ((y : ℕ × Transfer) → P (f y)) → AllByRecursion P (map f ys)
every_map P f [] h = tt
every_map P f (y ∷ ys) h = (h y, every_map P f ys h)

-- P holds of what comes before the last
before_last : (P : Step → Type 0) (xs : List Step) (x d : Step) (i : ℕ) → AllByRecursion P xs → i + 1 < length (xs ++ x ∷ []) → P (slice_index_or (xs ++ x ∷ []) i d)
before_last P [] x d i h l = absurd (omega (arith, l))
before_last P (y ∷ xs) x d zero h l = h.0
before_last P (y ∷ xs) x d (suc i) h l = before_last P xs x d i h.1 (omega (arith, l))

module _ (plan : Plan) (p : ℕ) where
  -- what holds of posts, or of takes, holds of a half, where it does of the rest of it
  module _ (P : Step → Type 0) (of_post : (share place : ℕ) → P (Post share place)) (of_take : (share place : ℕ) → P (Take share place)) where
    every_post : (pattern : Pattern) → AllByRecursion P (post_steps plan p pattern)
    every_post pattern = every_map P post_step (filter (is_from p) (enumerate_from 0 (transfers plan pattern))) (λ y. of_post y.1.share y.0)

    every_take : (pattern : Pattern) → AllByRecursion P (take_steps plan p pattern)
    every_take pattern = every_map P take_step (filter (is_to p) (enumerate_from 0 (taken_transfers plan pattern))) (λ y. of_take y.1.share y.0)

    every_step : (half : Half) (pattern : Pattern) → AllByRecursion P (steps_before plan p pattern) → AllByRecursion P (steps_after p pattern) → AllByRecursion P (steps plan p half pattern)
    every_step Head pattern h h' = every_append P (steps_before plan p pattern) (post_steps plan p pattern) h (every_post pattern)
    every_step Tail pattern h h' = every_append P (take_steps plan p pattern) (steps_after p pattern) (every_take pattern) h'

  -- a step that P holds of nowhere is none of these
  not_in : (P : Step → Type 0) (half : Half) (pattern : Pattern) (i : ℕ) (d x : Step) → AllByRecursion P (steps plan p half pattern) → i < length (steps plan p half pattern) → slice_index_or (steps plan p half pattern) i d ≡ x → (P x → ⊥) → ⊥
  not_in P half pattern i d x h l is none = none (subst P is (every_place P (steps plan p half pattern) i d h l))

  none_if : (P : Step → Type 0) (b : Bool) (xs : List Step) → AllByRecursion P xs → AllByRecursion P (only_if b xs)
  none_if P b xs h = every_only_if P b xs (λ e. h)

  -- a linear gate has a slot without messages, and its instruction in the head
  linear_silent : (half : Half) (pattern : Pattern) (i : ℕ) (d : Step) → i < length (steps plan p half pattern) → slice_index_or (steps plan p half pattern) i d ≡ Linear → (half ≡ Head) × (pattern ≡ Silent)
  linear_silent Head Silent i d l is = (refl, refl)
  linear_silent Tail Silent i d l is = absurd (omega (arith, l))
  linear_silent half (Dealt q) i d l is = absurd (not_in NotLinear half (Dealt q) i d Linear (every_step NotLinear (λ a b. tt) (λ a b. tt) half (Dealt q) (none_if NotLinear (nat_eq q p) (Deal ∷ []) (tt, tt)) tt) l is (λ z. z))
  linear_silent half Multiplied i d l is = absurd (not_in NotLinear half Multiplied i d Linear (every_step NotLinear (λ a b. tt) (λ a b. tt) half Multiplied (none_if NotLinear (has_pair (scheme plan) p) (Own ∷ Deal ∷ []) (tt, (tt, tt))) (tt, tt)) l is (λ z. z))
  linear_silent half (Opened readers) i d l is = absurd (not_in NotLinear half (Opened readers) i d Linear (every_step NotLinear (λ a b. tt) (λ a b. tt) half (Opened readers) tt (none_if NotLinear (has_party readers p) (Deliver ∷ []) (tt, tt))) l is (λ z. z))
  linear_silent half HandedOut i d l is = absurd (not_in NotLinear half HandedOut i d Linear (every_step NotLinear (λ a b. tt) (λ a b. tt) half HandedOut (none_if NotLinear (nat_lt 0 (least_held plan p (length plan.groups))) (Draw ∷ []) (tt, tt)) tt) l is (λ z. z))
  linear_silent half OpenedToAll i d l is = absurd (not_in NotLinear half OpenedToAll i d Linear (every_step NotLinear (λ a b. tt) (λ a b. tt) half OpenedToAll tt (tt, tt)) l is (λ z. z))
  linear_silent half Joined i d l is = absurd (not_in NotLinear half Joined i d Linear (every_step NotLinear (λ a b. tt) (λ a b. tt) half Joined tt (tt, tt)) l is (λ z. z))
  linear_silent half Held i d l is = absurd (not_in NotLinear half Held i d Linear (every_step NotLinear (λ a b. tt) (λ a b. tt) half Held tt tt) l is (λ z. z))
  linear_silent half Received i d l is = absurd (not_in NotLinear half Received i d Linear (every_step NotLinear (λ a b. tt) (λ a b. tt) half Received tt tt) l is (λ z. z))

  -- a sum is the last step of the tail of a product
  sum_is_last : (half : Half) (pattern : Pattern) (i : ℕ) (d : Step) → i < length (steps plan p half pattern) → slice_index_or (steps plan p half pattern) i d ≡ Sum
      → (half ≡ Tail) × (pattern ≡ Multiplied) × (i + 1 ≡ length (steps plan p half pattern))
  sum_is_last half Silent i d l is = absurd (not_in NotSum half Silent i d Sum (every_step NotSum (λ a b. tt) (λ a b. tt) half Silent (tt, tt) tt) l is (λ z. z))
  sum_is_last half (Dealt q) i d l is = absurd (not_in NotSum half (Dealt q) i d Sum (every_step NotSum (λ a b. tt) (λ a b. tt) half (Dealt q) (none_if NotSum (nat_eq q p) (Deal ∷ []) (tt, tt)) tt) l is (λ z. z))
  sum_is_last Head Multiplied i d l is = absurd (not_in NotSum Head Multiplied i d Sum (every_append NotSum (steps_before plan p Multiplied) (post_steps plan p Multiplied) (none_if NotSum (has_pair (scheme plan) p) (Own ∷ Deal ∷ []) (tt, (tt, tt))) (every_post NotSum (λ a b. tt) (λ a b. tt) Multiplied)) l is (λ z. z))
  sum_is_last Tail Multiplied i d l is = (
    refl,
    refl,
    elim (cases_lt (i + 1) (length (steps plan p Tail Multiplied))) [
      | inl more ↦ absurd (subst NotSum is (before_last NotSum (take_steps plan p Multiplied) Sum d i (every_take NotSum (λ a b. tt) (λ a b. tt) Multiplied) more))
      | inr past ↦ omega (arith, l, past)
    ],
  )
  sum_is_last half (Opened readers) i d l is = absurd (not_in NotSum half (Opened readers) i d Sum (every_step NotSum (λ a b. tt) (λ a b. tt) half (Opened readers) tt (none_if NotSum (has_party readers p) (Deliver ∷ []) (tt, tt))) l is (λ z. z))
  sum_is_last half HandedOut i d l is = absurd (not_in NotSum half HandedOut i d Sum (every_step NotSum (λ a b. tt) (λ a b. tt) half HandedOut (none_if NotSum (nat_lt 0 (least_held plan p (length plan.groups))) (Draw ∷ []) (tt, tt)) tt) l is (λ z. z))
  sum_is_last half OpenedToAll i d l is = absurd (not_in NotSum half OpenedToAll i d Sum (every_step NotSum (λ a b. tt) (λ a b. tt) half OpenedToAll tt (tt, tt)) l is (λ z. z))
  sum_is_last half Joined i d l is = absurd (not_in NotSum half Joined i d Sum (every_step NotSum (λ a b. tt) (λ a b. tt) half Joined tt (tt, tt)) l is (λ z. z))
  sum_is_last half Held i d l is = absurd (not_in NotSum half Held i d Sum (every_step NotSum (λ a b. tt) (λ a b. tt) half Held tt tt) l is (λ z. z))
  sum_is_last half Received i d l is = absurd (not_in NotSum half Received i d Sum (every_step NotSum (λ a b. tt) (λ a b. tt) half Received tt tt) l is (λ z. z))

  -- an own product is the first step of a product
  own_first : (b : Bool) (i : ℕ) (d : Step) → i < length (only_if b (Own ∷ Deal ∷ []) ++ post_steps plan p Multiplied) → slice_index_or (only_if b (Own ∷ Deal ∷ []) ++ post_steps plan p Multiplied) i d ≡ Own → (i ≡ 0) × (b ≡ true)
  own_first true zero d l is = (refl, refl)
  own_first true (suc i) d l is =
      let rest : List Step = Deal ∷ [] ++ post_steps plan p Multiplied in
      absurd (subst NotOwn is (every_place NotOwn rest i d (every_append NotOwn (Deal ∷ []) (post_steps plan p Multiplied) (tt, tt) (every_post NotOwn (λ a b. tt) (λ a b. tt) Multiplied)) (omega (arith, l))))
  own_first false i d l is = absurd (subst NotOwn is (every_place NotOwn (post_steps plan p Multiplied) i d (every_post NotOwn (λ a b. tt) (λ a b. tt) Multiplied) l))

  own_is_first : (half : Half) (pattern : Pattern) (i : ℕ) (d : Step) → i < length (steps plan p half pattern) → slice_index_or (steps plan p half pattern) i d ≡ Own
      → (half ≡ Head) × (pattern ≡ Multiplied) × (i ≡ 0) × (has_pair (scheme plan) p ≡ true)
  own_is_first half Silent i d l is = absurd (not_in NotOwn half Silent i d Own (every_step NotOwn (λ a b. tt) (λ a b. tt) half Silent (tt, tt) tt) l is (λ z. z))
  own_is_first half (Dealt q) i d l is = absurd (not_in NotOwn half (Dealt q) i d Own (every_step NotOwn (λ a b. tt) (λ a b. tt) half (Dealt q) (none_if NotOwn (nat_eq q p) (Deal ∷ []) (tt, tt)) tt) l is (λ z. z))
  own_is_first Head Multiplied i d l is = let first = own_first (has_pair (scheme plan) p) i d l is in (refl, refl, first.0, first.1)
  own_is_first Tail Multiplied i d l is = absurd (not_in NotOwn Tail Multiplied i d Own (every_append NotOwn (take_steps plan p Multiplied) (Sum ∷ []) (every_take NotOwn (λ a b. tt) (λ a b. tt) Multiplied) (tt, tt)) l is (λ z. z))
  own_is_first half (Opened readers) i d l is = absurd (not_in NotOwn half (Opened readers) i d Own (every_step NotOwn (λ a b. tt) (λ a b. tt) half (Opened readers) tt (none_if NotOwn (has_party readers p) (Deliver ∷ []) (tt, tt))) l is (λ z. z))
  own_is_first half HandedOut i d l is = absurd (not_in NotOwn half HandedOut i d Own (every_step NotOwn (λ a b. tt) (λ a b. tt) half HandedOut (none_if NotOwn (nat_lt 0 (least_held plan p (length plan.groups))) (Draw ∷ []) (tt, tt)) tt) l is (λ z. z))
  own_is_first half OpenedToAll i d l is = absurd (not_in NotOwn half OpenedToAll i d Own (every_step NotOwn (λ a b. tt) (λ a b. tt) half OpenedToAll tt (tt, tt)) l is (λ z. z))
  own_is_first half Joined i d l is = absurd (not_in NotOwn half Joined i d Own (every_step NotOwn (λ a b. tt) (λ a b. tt) half Joined tt (tt, tt)) l is (λ z. z))
  own_is_first half Held i d l is = absurd (not_in NotOwn half Held i d Own (every_step NotOwn (λ a b. tt) (λ a b. tt) half Held tt tt) l is (λ z. z))
  own_is_first half Received i d l is = absurd (not_in NotOwn half Received i d Own (every_step NotOwn (λ a b. tt) (λ a b. tt) half Received tt tt) l is (λ z. z))

-- only steps of its kind become an instruction
module _ (k first deals j : ℕ) where
  is_linear : (step : Step) → placed k first deals step ≡ instruction.Linear j → step ≡ Linear
  is_linear Draw is = absurd cc
  is_linear Deal is = absurd cc
  is_linear Own is = absurd cc
  is_linear (Post share place) is = absurd cc
  is_linear (Take share place) is = absurd cc
  is_linear Linear is = refl
  is_linear Sum is = absurd cc
  is_linear Open is = absurd cc
  is_linear Join is = absurd cc
  is_linear Deliver is = absurd cc

  is_sum : (step : Step) → placed k first deals step ≡ instruction.Sum j → step ≡ Sum
  is_sum Draw is = absurd cc
  is_sum Deal is = absurd cc
  is_sum Own is = absurd cc
  is_sum (Post share place) is = absurd cc
  is_sum (Take share place) is = absurd cc
  is_sum Linear is = absurd cc
  is_sum Sum is = refl
  is_sum Open is = absurd cc
  is_sum Join is = absurd cc
  is_sum Deliver is = absurd cc

  is_own : (step : Step) → placed k first deals step ≡ instruction.Own j → step ≡ Own
  is_own Draw is = absurd cc
  is_own Deal is = absurd cc
  is_own Own is = refl
  is_own (Post share place) is = absurd cc
  is_own (Take share place) is = absurd cc
  is_own Linear is = absurd cc
  is_own Sum is = absurd cc
  is_own Open is = absurd cc
  is_own Join is = absurd cc
  is_own Deliver is = absurd cc

-- a place tells by its half, its pattern and what is done which instruction of a gate may stand there
module _ (plan : Plan) (p s : ℕ) (is : IsPlan plan) (ls : s < length plan.sessions) (place : Place) (q : ℕ) (here : IsPlace plan p s place q) where
  -- an instruction but the end is one of its slot
  some_left : (i : Instruction) → at (program plan p s) q ≡ i → i ≢ instruction.End → place.done < place.count
  some_left i is other = elim (cases_lt place.done place.count) [
    | inl l ↦ l
    | inr past ↦ absurd (other (sym is ∙ ends_there plan p s place q here past))
  ]

  module _ (some : place.done < place.count) where
    there : place.slot < slots plan s
    there = in_slot plan p s place q here some

    abbrev step_at : Step
    step_at = slice_index_or (steps plan p place.half place.pattern) place.done Deal

    count_is : place.count ≡ length (steps plan p place.half place.pattern)
    count_is =
        here.count ∙ count_at plan p s place.half place.slot there ∙ length-half plan p s place.half place.slot is ls there
        ∙ ap (λ pattern. length (steps plan p place.half pattern)) (sym (here.pattern there))

    short : place.done < length (steps plan p place.half place.pattern)
    short = let all = count_is in omega (arith, some, all)

    made_here : at (program plan p s) q ≡ placed place.slot (first_named plan s place.slot) (deals_before plan p s place.slot) step_at
    made_here =
        instruction_is plan p s place q here some
        ∙ step_is plan p s place.half place.slot is ls there place.done Deal (subst (λ pattern. place.done < length (steps plan p place.half pattern)) (here.pattern there) short)
        ∙ ap (λ pattern. placed place.slot (first_named plan s place.slot) (deals_before plan p s place.slot) (slice_index_or (steps plan p place.half pattern) place.done Deal)) (sym (here.pattern there))

  pub linear_place : (k : ℕ) → at (program plan p s) q ≡ instruction.Linear k → (place.half ≡ Head) × (place.pattern ≡ Silent)
  linear_place k is =
      let some = some_left (instruction.Linear k) is (λ z. cc) in
      linear_silent plan p place.half place.pattern place.done Deal (short some)
      (is_linear place.slot (first_named plan s place.slot) (deals_before plan p s place.slot) k (step_at some) (sym (made_here some) ∙ is))

  pub sum_place : (k : ℕ) → at (program plan p s) q ≡ instruction.Sum k → (place.half ≡ Tail) × (place.pattern ≡ Multiplied) × (place.done + 1 ≡ place.count)
  sum_place k is =
      let some = some_left (instruction.Sum k) is (λ z. cc) in
      let last = sum_is_last plan p place.half place.pattern place.done Deal (short some)
      (is_sum place.slot (first_named plan s place.slot) (deals_before plan p s place.slot) k (step_at some) (sym (made_here some) ∙ is)) in
      (last.0, last.1, last.2 ∙ sym (count_is some))

  pub own_place : (k : ℕ) → at (program plan p s) q ≡ instruction.Own k → (place.half ≡ Head) × (place.pattern ≡ Multiplied) × (place.done ≡ 0) × (0 < place.count) × (has_pair (scheme plan) p ≡ true)
  own_place k is =
      let some = some_left (instruction.Own k) is (λ z. cc) in
      let first' = own_is_first plan p place.half place.pattern place.done Deal (short some)
      (is_own place.slot (first_named plan s place.slot) (deals_before plan p s place.slot) k (step_at some) (sym (made_here some) ∙ is)) in
      (first'.0, first'.1, first'.2, omega (arith, some), first'.3)
