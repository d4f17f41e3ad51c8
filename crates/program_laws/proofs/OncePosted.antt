-- Each message is posted once and taken once by all programs, since it is slot by slot.
use Rattle.std.proofs.Common.{◌≡◌, ◌≢◌, ℕ, zero, suc, ◌+◌, ◌-◌, ◌<◌, ◌≤◌, Bool, true, false, not, ◌&&◌, nat_eq, if◌then◌else◌, List, [], ◌∷◌, ◌++◌, length, refl, sym, ap, ap₂, ◌∙◌, arith}
use Rattle.std.specs.List.{AllByRecursion}
use Rattle.std.proofs.lemmas.Bool.{cases_Bool, cond-true, cond-false, eq-eqb, eqb-true, false≢true}
use mathlib.Core.Logic.{inl, inr}
use Rattle.list_laws.specs.Lists.{total, joined}
use Rattle.list_laws.proofs.Totals.{total_one, total_zero}
use Rattle.plan_model.specs.Plans.{Plan, IsPlan, session, slots}
use Rattle.plan_model.specs.declared.key.Key.{Key}
use Rattle.plan_model.specs.Messages.{messages}
use Rattle.plan_model.specs.Numbers.{message}
use Rattle.job_session.specs.Batches.{batch}
use Rattle.program_model.specs.declared.instruction.Instruction.{Instruction}
use Rattle.program_model.specs.declared.instruction.Instruction.TheVariants.{Post, Take, End}
use Rattle.program_model.specs.Programs.{at, head, tail, tails, program, slot_program}
use Rattle.program_laws.specs.Once.{StandsOnce, StandsOnceInSlot, IsOnce, take_session, take_slot}
use Rattle.program_laws.proofs.BatchRuns.{whole}
use Rattle.program_laws.proofs.ContainedInstructions.{Contains, contains_left, contains_right}
use Rattle.program_laws.proofs.OnceInSlots.{once_in_slot}
use Rattle.program_laws.proofs.ProgramParts.{all_parts, at_within, is_within, slot_in}
use Rattle.program_laws.proofs.SentMessages.{there}
use Rattle.program_laws.proofs.TakenMessages.{taken_there}

-- ---- how many instructions of a list pass

abbrev one : Bool → ℕ
one b = if b then 1 else 0

counted : (b : Bool) → b ≡ true → one b ≡ 1
counted b e = cond-true b 1 0 e

skipped : (b : Bool) → b ≡ false → one b ≡ 0
skipped b e = cond-false b 1 0 e

module _ (test : Instruction → Bool) where
  abbrev times : List Instruction → ℕ
  times [] = 0
  times (e ∷ es) = one (test e) + times es

  times_append : (xs ys : List Instruction) → times (xs ++ ys) ≡ times xs + times ys
  times_append [] ys = omega arith
  times_append (x ∷ xs) ys = omega (arith, times_append xs ys)

  times_joined : (n : ℕ) (f : ℕ → List Instruction) → times (joined n f) ≡ total n (λ k. times (f k))
  times_joined zero f = refl
  times_joined (suc n) f = omega (arith, times_append (joined n f) (f n), times_joined n f)

  none_pass : (es : List Instruction) → ((q : ℕ) → test (at es q) ≢ true) → times es ≡ 0
  none_pass [] h = refl
  none_pass (e ∷ es) h = elim (cases_Bool (test e)) [
    | inl yes' ↦ absurd (h 0 yes')
    | inr no' ↦ omega (arith, skipped (test e) no', none_pass es (λ q. h (suc q)))
  ]

  one_passes : (es : List Instruction) (c : ℕ) → ((q : ℕ) → test (at es q) ≡ true → q ≡ c) → times es ≤ 1
  one_passes [] c h = omega arith
  one_passes (e ∷ es) c h = elim (cases_Bool (test e)) [
    | inl yes' ↦ omega (arith, counted (test e) yes', none_pass es (λ q e'. let a : 0 ≡ c = h 0 yes' in let b : suc q ≡ c = h (suc q) e' in omega arith))
    | inr no' ↦ omega (arith, skipped (test e) no', one_passes es (c - 1) (λ q e'. let b : suc q ≡ c = h (suc q) e' in omega arith))
  ]

  module _ (ends : test End ≡ false) where
    some_pass : (es : List Instruction) (q : ℕ) → test (at es q) ≡ true → 1 ≤ times es
    some_pass [] q e = absurd (false≢true (sym ends ∙ e))
    some_pass (x ∷ xs) zero e = omega (arith, counted (test x) e)
    some_pass (x ∷ xs) (suc q) e = omega (arith, some_pass xs q e)

    one_place : (es : List Instruction) (q r : ℕ) → times es ≤ 1 → test (at es q) ≡ true → test (at es r) ≡ true → q ≡ r
    one_place [] q r few a b = absurd (false≢true (sym ends ∙ a))
    one_place (x ∷ xs) zero zero few a b = refl
    one_place (x ∷ xs) zero (suc r) few a b = absurd (omega (arith, few, counted (test x) a, some_pass xs r b))
    one_place (x ∷ xs) (suc q) zero few a b = absurd (omega (arith, few, counted (test x) b, some_pass xs q a))
    one_place (x ∷ xs) (suc q) (suc r) few a b = ap suc (one_place xs q r (omega (arith, few)) a b)

  -- a program has as many as its slots
  times_stay : (plan : Plan) (s p : ℕ) → times (program plan p s) ≡ total (slots plan s) (λ k. times (slot_program plan p s k))
  times_stay plan s p =
      sym (whole (session plan s) (head plan p s) (tail plan p s) (λ xs ys. times xs ≡ times ys) (record {
        equal = λ xs ys e. ap times e;
        on = λ xs ys zs a b. a ∙ b;
        within = λ fs xs ys bs h. omega (arith, times_append (fs ++ xs) bs, times_append fs xs, times_append (fs ++ ys) bs, times_append fs ys, h);
      }) (λ k lk. omega (arith, times_append (tails plan p s (batch (session plan s) k) k) (head plan p s k), times_append (head plan p s k) (tails plan p s (batch (session plan s) k) k))))
      ∙ times_joined (slots plan s) (slot_program plan p s)

-- ---- the posts of a message, or else its takes

abbrev kind_of : Bool → ℕ → ℕ → Instruction
kind_of true = Post
kind_of false = Take

abbrev names : Bool → ℕ → Instruction → Bool
names b n (Post m i) = b && nat_eq m n
names b n (Take m i) = not b && nat_eq m n
names b n _ = false

is_kind : (b : Bool) (n : ℕ) (e : Instruction) → names b n e ≡ true → (i : ℕ) × (e ≡ kind_of b n i)
is_kind true n (Post m i) h = (i, ap (λ z. Post z i) (eqb-true m n h))
is_kind false n (Post m i) h = absurd (false≢true h)
is_kind true n (Take m i) h = absurd (false≢true h)
is_kind false n (Take m i) h = (i, ap (λ z. Take z i) (eqb-true m n h))
is_kind b n _ h = absurd (false≢true h)

kind_named : (b : Bool) (n i : ℕ) → names b n (kind_of b n i) ≡ true
kind_named true n i = eq-eqb n n refl
kind_named false n i = eq-eqb n n refl

no_end : (b : Bool) (n i : ℕ) → kind_of b n i ≢ End
no_end true n i e = cc
no_end false n i e = cc

-- ---- from slots to programs

-- what stands in a program stands in a slot
in_slots : (plan : Plan) (s p : ℕ) → AllByRecursion (λ e. (j : ℕ) × (j < slots plan s) × Contains (slot_program plan p s j) e) (program plan p s)
in_slots plan s p =
    all_parts plan s p (λ e. (j : ℕ) × (j < slots plan s) × Contains (slot_program plan p s j) e)
    (λ k lk. all_at _ (head plan p s k) (λ q lq. (k, lk, contains_left (head plan p s k) (tail plan p s k) _ (q, lq, refl))))
    (λ k lk. all_at _ (tail plan p s k) (λ q lq. (k, lk, contains_right (head plan p s k) (tail plan p s k) _ (q, lq, refl))))
  where
    all_at : (Q : Instruction → Type 0) (es : List Instruction) → ((q : ℕ) → q < length es → Q (at es q)) → AllByRecursion Q es
    all_at Q [] h = tt
    all_at Q (e ∷ es) h = (h 0 (omega arith), all_at Q es (λ q l. h (suc q) (omega (arith, l))))

module _ (plan : Plan) (b : Bool) (n p s k share : ℕ) (lk : k < slots plan s) (stands : StandsOnceInSlot plan (kind_of b n) p s k share) where
  here : Contains (program plan p s) (kind_of b n share)
  here = slot_in plan s p k (kind_of b n share) lk (stands.position, stands.within, stands.stands)

  few : times (names b n) (program plan p s) ≤ 1
  few =
      let c : ℕ → ℕ = λ j. times (names b n) (slot_program plan p s j) in
      let own : c k ≤ 1 = one_passes (names b n) (slot_program plan p s k) stands.position (λ q e. let is = is_kind b n (at (slot_program plan p s k) q) e in (stands.alone p s k q is.0 lk is.1).3) in
      let sum = total_one (slots plan s) k c (λ j. 0) lk (λ j lj ne. none_pass (names b n) (slot_program plan p s j) (λ q e. let is = is_kind b n (at (slot_program plan p s j) q) e in ne (stands.alone p s j q is.0 lj is.1).2)) in
      omega (arith, own, sum, total_zero (slots plan s) (λ j. 0) (λ j lj. refl), times_stay (names b n) plan s p)

  in_program : StandsOnce plan (kind_of b n) p s share
  in_program = record {
    position = here.0;
    stands = here.2;
    alone = λ r t u i e.
        let within : u < length (program plan r t) = is_within (program plan r t) u (λ f. no_end b n i (sym e ∙ f)) in
        let slot_is = at_within _ (program plan r t) u within (in_slots plan t r) in
        let his = stands.alone r t slot_is.0 slot_is.2.0 i slot_is.1 (slot_is.2.2 ∙ e) in
        let moved : at (program plan p s) u ≡ kind_of b n i = ap₂ (λ x y. at (program plan x y) u) (sym his.0) (sym his.1) ∙ e in
        (his.0, his.1, one_place (names b n) refl (program plan p s) u here.0 few (ap (names b n) moved ∙ kind_named b n i) (ap (names b n) here.2 ∙ kind_named b n share));
  }

pub once : (plan : Plan) (n : ℕ) → IsPlan plan → n < length (messages plan) → IsOnce plan n
once plan n h l =
    let key : Key = message plan n in
    let is = there plan n l in
    let slotwise = once_in_slot plan n l h in
    let at = taken_there plan h key.session key.slot is.session_within is.slot_within (omega (arith, is.place_within)) in
    record {
      session_there = is.session_within;
      slot_there = is.slot_within;
      posted = in_program plan true n key.sender key.session key.slot key.share is.slot_within slotwise.posted;
      taken = in_program plan false n key.receiver (take_session plan n) (take_slot plan n) key.share at.slot_there slotwise.taken;
    }
