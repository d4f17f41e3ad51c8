-- The instructions in slots of gates.
use Rattle.std.proofs.Common.{◌≡◌, ◌≢◌, ℕ, zero, suc, ◌+◌, ◌<◌, ◌≤◌, true, List, [], ◌∷◌, ◌++◌, length, refl, sym, ap, ap₂, ◌∙◌, inl, inr, arith}
use Rattle.std.specs.Prelude.{slice_index_or}
use Rattle.std.proofs.lemmas.Bool.{cases_lt}
use Rattle.std.proofs.lemmas.List.{length-append}
use Rattle.list_laws.specs.Lists.{only_if}
use Rattle.secret_sharing.specs.Schemes.{has_pair}
use Rattle.plan_model.specs.declared.pattern.Pattern.TheVariants.{Silent, Multiplied}
use Rattle.job_session.specs.Batches.{IsBatch}
use Rattle.plan_model.specs.Plans.{IsPlan, Plan, scheme, session, slots}
use Rattle.plan_model.specs.Numbers.{deals_before}
use Rattle.plan_model.specs.Patterns.{pattern_at}
use Rattle.program_model.specs.declared.half.Half.{Half}
use Rattle.program_model.specs.declared.half.Half.TheVariants.{Head, Tail}
use Rattle.program_model.specs.declared.instruction.Instruction.TheVariants as instruction
use Rattle.program_model.specs.declared.instruction.Instruction.TheVariants.{End}
use Rattle.party_program.specs.declared.place.Place.{Place}
use Rattle.party_program.specs.declared.step.Step.{Step}
use Rattle.party_program.specs.declared.step.Step.TheVariants.{Own, Deal, Linear, Sum}
use Rattle.program_model.specs.Programs.{first_named, half_program, program, at}
use Rattle.party_program.specs.PartySteps.{post_steps, take_steps, steps, placed}
use Rattle.party_program.specs.ProgramPlaces.{position_of, count_in, InProduct, IsPlace}
use Rattle.party_program.proofs.ProgramPlaces.{before_more, count_at, count_past, half_at, in_slot, length-half, ahead_is, step_is}

-- the last of a list
last_is : {A : Type 0} (xs : List A) (x d : A) (j : ℕ) → j + 1 ≡ length (xs ++ x ∷ []) → slice_index_or (xs ++ x ∷ []) j d ≡ x
last_is [] x d zero e = refl
last_is [] x d (suc j) e = absurd (omega (arith, e))
last_is (y ∷ xs) x d zero e = absurd (let all = length-append xs (x ∷ []) in omega (arith, e, all))
last_is (y ∷ xs) x d (suc j) e = last_is xs x d j (omega (arith, e))

-- the tail of a product has a step
pub product_some : (plan : Plan) (p : ℕ) → 0 < length (steps plan p Tail Multiplied)
product_some plan p = let all = length-append (take_steps plan p Multiplied) (Sum ∷ []) in omega (arith, all)

-- a place whose half has instructions is in a slot
pub counts_within : (plan : Plan) (p s : ℕ) (place : Place) (i q : ℕ) → IsPlace plan p s place q → i < place.count → place.slot < slots plan s
counts_within plan p s place i q here some = elim (cases_lt place.slot (slots plan s)) [
  | inl l ↦ l
  | inr past ↦ absurd (let none : place.count ≡ 0 = here.count ∙ count_past plan p s place.half place.slot past in omega (arith, some, none))
]

-- the slot of a gate, in its batch
module _ (plan : Plan) (p s a b k : ℕ) (is : IsPlan plan) (ls : s < length plan.sessions) (one : IsBatch (session plan s) a b) (from : a ≤ k) (to : k < b) where
  lk : k < slots plan s
  lk = let there = one.there in omega (arith, there, to)

  -- where a half begins
  abbrev pub first_place : Half → Place
  first_place half = record {
    half = half;
    slot = k;
    batch = a;
    end = b;
    pattern = pattern_at plan s k;
    first = first_named plan s k;
    done = 0;
    count = count_in plan p s half k;
  }

  pub first_is : (half : Half) → 0 < length (half_program plan p s half k) → IsPlace plan p s (first_place half) (position_of plan p s half a b k)
  first_is half some = record {
    batch = inl (one, from, to);
    pattern = λ l. refl;
    first = refl;
    done = omega arith;
    count = refl;
    within = λ l. (let count = count_at plan p s half k lk in omega (arith, count, some));
  }

  module _ (silent : pattern_at plan s k ≡ Silent) where
    -- a linear gate has one instruction
    pub linear_one : length (half_program plan p s Head k) ≡ 1
    linear_one = length-half plan p s Head k is ls lk ∙ ap (λ pattern. length (steps plan p Head pattern)) silent

    pub linear_more : position_of plan p s Head a b (k + 1) ≡ position_of plan p s Head a b k + 1
    linear_more = let more = before_more plan p s Head k in let own = linear_one in omega (arith, more, own)

    pub linear_at : at (program plan p s) (position_of plan p s Head a b k) ≡ instruction.Linear k
    linear_at =
        let none : position_of plan p s Head a b k ≡ position_of plan p s Head a b k + 0 = omega arith in
        let some : 0 < length (half_program plan p s Head k) = let own = linear_one in omega (arith, own) in
        ap (at (program plan p s)) none
        ∙ half_at plan p s a b k one from to Head 0 some
        ∙ step_is plan p s Head k is ls lk 0 Linear (let long = length-half plan p s Head k is ls lk in omega (arith, long, some))
        ∙ ap (λ pattern. placed k (first_named plan s k) (deals_before plan p s k) (slice_index_or (steps plan p Head pattern) 0 Linear)) silent

-- a place at a half of a product
module _ (plan : Plan) (p s : ℕ) (is : IsPlan plan) (ls : s < length plan.sessions) (half : Half) (place : Place) (in_product : InProduct half place) (q : ℕ) (here : IsPlace plan p s place q) where
  pub product_there : place.slot < slots plan s
  product_there = in_slot plan p s place q here in_product.2

  multiplied : pattern_at plan s place.slot ≡ Multiplied
  multiplied = sym (here.pattern product_there) ∙ in_product.1

  pub product_count : place.count ≡ length (half_program plan p s half place.slot)
  product_count = here.count ∙ count_at plan p s place.half place.slot product_there ∙ ap (λ z. length (half_program plan p s z place.slot)) in_product.0

  product_steps : length (half_program plan p s half place.slot) ≡ length (steps plan p half Multiplied)
  product_steps = length-half plan p s half place.slot is ls product_there ∙ ap (λ pattern. length (steps plan p half pattern)) multiplied

  -- the instruction so many steps on in the half
  pub product_at : (ahead : ℕ) → place.done + ahead < place.count → at (program plan p s) (q + ahead) ≡ slice_index_or (half_program plan p s half place.slot) (place.done + ahead) End
  product_at ahead left = ahead_is plan p s place q here ahead left ∙ ap (λ z. slice_index_or (half_program plan p s z place.slot) (place.done + ahead) End) in_product.0

  -- it is that of its step
  product_step : (ahead : ℕ) (d : Step) → place.done + ahead < place.count
      → at (program plan p s) (q + ahead) ≡ placed place.slot (first_named plan s place.slot) (deals_before plan p s place.slot) (slice_index_or (steps plan p half Multiplied) (place.done + ahead) d)
  product_step ahead d left =
      let count = product_count in
      let long = length-half plan p s half place.slot is ls product_there in
      product_at ahead left
      ∙ step_is plan p s half place.slot is ls product_there (place.done + ahead) d (omega (arith, left, count, long))
      ∙ ap (λ pattern. placed place.slot (first_named plan s place.slot) (deals_before plan p s place.slot) (slice_index_or (steps plan p half pattern) (place.done + ahead) d)) multiplied

module _ (plan : Plan) (p s : ℕ) (is : IsPlan plan) (ls : s < length plan.sessions) (place : Place) (in_product : InProduct Tail place) (q : ℕ) (here : IsPlace plan p s place q) where
  -- the last instruction of the tail of a product is its sum
  pub product_ends : (ahead : ℕ) → place.done + ahead + 1 ≡ place.count → at (program plan p s) (q + ahead) ≡ instruction.Sum place.slot
  product_ends ahead last =
      let count = product_count plan p s is ls Tail place in_product q here in
      let all = product_steps plan p s is ls Tail place in_product q here in
      product_step plan p s is ls Tail place in_product q here ahead Sum (omega (arith, last))
      ∙ ap (placed place.slot (first_named plan s place.slot) (deals_before plan p s place.slot)) (last_is (take_steps plan p Multiplied) Sum Sum (place.done + ahead) (omega (arith, last, count, all)))

  -- another one comes after each that is not the sum
  pub product_goes_on : (ahead : ℕ) → place.done + ahead < place.count → at (program plan p s) (q + ahead) ≢ instruction.Sum place.slot → place.done + ahead + 1 < place.count
  product_goes_on ahead within other = elim (cases_lt (place.done + ahead + 1) place.count) [
    | inl more ↦ more
    | inr past ↦ absurd (other (product_ends ahead (omega (arith, within, past))))
  ]

-- at the start of a product, for which the party has a pair of summands to multiply, come the own product and its deal
module _ (plan : Plan) (p s : ℕ) (is : IsPlan plan) (ls : s < length plan.sessions) (place : Place) (in_product : InProduct Head place) (q : ℕ) (here : IsPlace plan p s place q) (starts : place.done ≡ 0) (has : has_pair (scheme plan) p ≡ true) where
  begins : steps plan p Head Multiplied ≡ Own ∷ Deal ∷ post_steps plan p Multiplied
  begins = ap (λ b. only_if b (Own ∷ Deal ∷ []) ++ post_steps plan p Multiplied) has

  pub product_two : 2 ≤ place.count
  product_two =
      let count = product_count plan p s is ls Head place in_product q here in
      let all = product_steps plan p s is ls Head place in_product q here in
      let two = ap (length {A = Step}) begins in
      omega (arith, count, all, two)

  begun : (ahead : ℕ) → ahead < 2 → at (program plan p s) (q + ahead) ≡ placed place.slot (first_named plan s place.slot) (deals_before plan p s place.slot) (slice_index_or (Own ∷ Deal ∷ post_steps plan p Multiplied) ahead Own)
  begun ahead less =
      let two = product_two in
      let same : place.done + ahead ≡ ahead = omega (arith, starts) in
      product_step plan p s is ls Head place in_product q here ahead Own (omega (arith, two, less, starts))
      ∙ ap₂ (λ xs i. placed place.slot (first_named plan s place.slot) (deals_before plan p s place.slot) (slice_index_or xs i Own)) begins same

  pub product_own : at (program plan p s) q ≡ instruction.Own place.slot
  product_own = let here' : q ≡ q + 0 = omega arith in ap (at (program plan p s)) here' ∙ begun 0 (omega arith)

  pub product_deal : at (program plan p s) (q + 1) ≡ instruction.Deal place.slot (deals_before plan p s place.slot)
  product_deal = begun 1 (omega arith)
