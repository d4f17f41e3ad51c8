-- Slot by slot, each message is posted once and taken once.
use Rattle.std.proofs.Common.{◌≡◌, ℕ, zero, suc, ◌+◌, ◌<◌, ◌≤◌, Bool, true, false, List, [], ◌∷◌, ◌++◌, map, flat_map, length, refl, sym, ap, ap₂, ◌∙◌, subst, arith}
use Rattle.std.specs.List.{range_with_len, filter}
use Rattle.std.proofs.lemmas.Bool.{cases_eq, cases_lt, cases_Bool, cond-true, cond-false, eq-eqb, eqb-true}
use mathlib.Core.Logic.{inl, inr}
use Rattle.list_laws.proofs.JoinedLists.{total_within}
use Rattle.plan_model.specs.Plans.{Plan, IsPlan, slot, slots}
use Rattle.plan_model.specs.declared.key.Key.{Key}
use Rattle.plan_model.specs.Messages.{messages}
use Rattle.plan_model.specs.Numbers.{message}
use Rattle.plan_model.specs.Firsts.{count, session_count, first, numbers}
use Rattle.plan_model.proofs.DistinctMessages.{number_of_message}
use Rattle.plan_model.proofs.MessageSlots.{IsThere, number_is}
use Rattle.program_model.specs.declared.instruction.Instruction.{Instruction}
use Rattle.program_model.specs.declared.instruction.Instruction.TheVariants.{Post, Take, End}
use Rattle.program_model.specs.Programs.{at, from, to, post, take_of, passes, passed, opening, posts, takes, head, tail, slot_program}
use Rattle.program_laws.specs.Once.{StandsOnceInSlot, IsOnceInSlot, taken_at, take_session, take_slot}
use Rattle.program_laws.proofs.ContainedInstructions.{Contains, contains_left, contains_right, contains_kept}
use Rattle.program_laws.proofs.SameTalks.{told, slot_told}
use Rattle.program_laws.proofs.SentMessages.{there}
use Rattle.program_laws.proofs.TakenMessages.{session_there, takes_from, taken_there, same_or_later}

-- ---- numbers that rise

module _ (mine : ℕ → Bool) where
  -- the numbers pass and rise, from lo to below hi
  abbrev Rises : ℕ → ℕ → List ℕ → Type 0
  Rises lo hi [] = lo ≤ hi
  Rises lo hi (n ∷ ns) = (lo ≤ n) × (mine n ≡ true) × Rises (n + 1) hi ns

  rises_lower : (lo low hi : ℕ) (ns : List ℕ) → low ≤ lo → Rises lo hi ns → Rises low hi ns
  rises_lower lo low hi [] l h = omega arith
  rises_lower lo low hi (n ∷ ns) l h = ((let a = h.0 in omega arith), h.1, h.2)

  rises_append : (lo mid hi : ℕ) (ns ms : List ℕ) → Rises lo mid ns → Rises mid hi ms → Rises lo hi (ns ++ ms)
  rises_append lo mid hi [] ms h k = rises_lower mid lo hi ms h k
  rises_append lo mid hi (n ∷ ns) ms h k = (h.0, h.1, rises_append (n + 1) mid hi ns ms h.2 k)

  rises_rest : (lo hi : ℕ) (ns ms : List ℕ) → Rises lo hi (ns ++ ms) → Rises lo hi ms
  rises_rest lo hi [] ms h = h
  rises_rest lo hi (n ∷ ns) ms h = rises_lower (n + 1) lo hi ms (let a = h.0 in omega arith) (rises_rest (n + 1) hi ns ms h.2)

  rises_within : (lo hi : ℕ) (ns : List ℕ) → Rises lo hi ns → lo ≤ hi
  rises_within lo hi [] h = h
  rises_within lo hi (n ∷ ns) h = let a = h.0 in let b = rises_within (n + 1) hi ns h.2 in omega arith

  -- those of a range that pass
  kept : (a n : ℕ) → Rises a (a + n) (filter mine (range_with_len a n))
  kept a zero = omega arith
  kept a (suc n) =
      let others : List ℕ = filter mine (range_with_len (a + 1) n) in
      let same : a + 1 + n ≡ a + suc n = omega arith in
      let rest : Rises (a + 1) (a + suc n) others = subst (λ z. Rises (a + 1) z others) same (kept (a + 1) n) in
      elim (cases_Bool (mine a)) [
        | inl e ↦ subst (Rises a (a + suc n)) (sym (cond-true (mine a) (a ∷ others) others e)) (omega arith, e, rest)
        | inr e ↦ subst (Rises a (a + suc n)) (sym (cond-false (mine a) (a ∷ others) others e)) (rises_lower (a + 1) a (a + suc n) others (omega arith) rest)
      ]

  -- ---- instructions that tell such numbers

  module _ (f : Instruction → List ℕ) (ends : f End ≡ []) where
    never : (n : ℕ) → f End ≡ n ∷ [] → ⊥
    never n e = (let none : [] ≡ n ∷ [] = sym ends ∙ e in cc)

    bounds : (lo hi : ℕ) (es : List Instruction) (q n : ℕ) → Rises lo hi (flat_map f es) → f (at es q) ≡ n ∷ [] → (lo ≤ n) × (n < hi) × (mine n ≡ true)
    bounds lo hi [] q n h e = absurd (never n e)
    bounds lo hi (x ∷ xs) zero n h e =
        let here = subst (λ z. Rises lo hi (z ++ flat_map f xs)) e h in
        let less = rises_within (n + 1) hi (flat_map f xs) here.2 in
        (here.0, omega arith, here.1)
    bounds lo hi (x ∷ xs) (suc q) n h e = bounds lo hi xs q n (rises_rest lo hi (f x) (flat_map f xs) h) e

    twice : (lo hi : ℕ) (es : List Instruction) (q r n : ℕ) → Rises lo hi (flat_map f es) → q < r → f (at es q) ≡ n ∷ [] → f (at es r) ≡ n ∷ [] → ⊥
    twice lo hi [] q r n h l a b = never n a
    twice lo hi (x ∷ xs) zero zero n h l a b = omega arith
    twice lo hi (x ∷ xs) zero (suc r) n h l a b =
        let here = subst (λ z. Rises lo hi (z ++ flat_map f xs)) a h in
        let least = (bounds (n + 1) hi xs r n here.2 b).0 in
        omega arith
    twice lo hi (x ∷ xs) (suc q) zero n h l a b = omega arith
    twice lo hi (x ∷ xs) (suc q) (suc r) n h l a b = twice lo hi xs q r n (rises_rest lo hi (f x) (flat_map f xs) h) (omega arith) a b

    one_place : (lo hi : ℕ) (es : List Instruction) (q r n : ℕ) → Rises lo hi (flat_map f es) → f (at es q) ≡ n ∷ [] → f (at es r) ≡ n ∷ [] → q ≡ r
    one_place lo hi es q r n h a b = elim (cases_eq q r) [
      | inl same ↦ same
      | inr ne ↦ absurd (elim (cases_lt q r) [ inl less ↦ twice lo hi es q r n h less a b | inr more ↦ twice lo hi es r q n h (omega arith) b a ])
    ]

-- ---- the numbers of a slot

-- where the messages of slot k of session s are posted, or else taken
abbrev standing : Bool → Plan → ℕ → ℕ → ℕ × ℕ
standing true plan s k = (s, k)
standing false plan s k = taken_at plan s k

-- number n is of a slot whose messages stand in slot j of session t
pub record IsOf (plan : Plan) (b : Bool) (t j n : ℕ) : Type 0 where
  pub at : ℕ
  pub place : ℕ
  pub within : place < slots plan at
  pub least : first plan at place ≤ n
  pub below : n < first plan at place + count plan at place
  pub stands : standing b plan at place ≡ (t, j)

-- what p posts in slot j of session t, or else takes there, rises in a range of such numbers
pub record Ranges (plan : Plan) (b : Bool) (p t j : ℕ) : Type 0 where
  pub lo : ℕ
  pub hi : ℕ
  pub rises : Rises (passes b plan p) lo hi (flat_map (told b) (slot_program plan p t j))
  pub of : (n : ℕ) → lo ≤ n → n < hi → IsOf plan b t j n

ranges_of : (plan : Plan) (b : Bool) (p t j s k : ℕ) → k < slots plan s → passed b plan t j ≡ numbers plan s k → standing b plan s k ≡ (t, j) → Ranges plan b p t j
ranges_of plan b p t j s k lk are stands = record {
  lo = first plan s k;
  hi = first plan s k + count plan s k;
  rises = subst (Rises (passes b plan p) (first plan s k) (first plan s k + count plan s k)) (sym (slot_told plan t p b j ∙ ap (filter (passes b plan p)) are))
      (kept (passes b plan p) (first plan s k) (count plan s k));
  of = λ n low high. record { at = s; place = k; within = lk; least = low; below = high; stands = stands };
}

ranges : (plan : Plan) → IsPlan plan → (b : Bool) (p t j : ℕ) → j < slots plan t → Ranges plan b p t j
ranges plan h true p t j lj = ranges_of plan true p t j t j lj refl refl
ranges plan h false p t j lj = elim (takes_from plan h t j (session_there plan t j lj) lj) [
  | inl none ↦ record {
    lo = 0;
    hi = 0;
    rises = subst (Rises (passes false plan p) 0 0) (sym (slot_told plan t p false j ∙ ap (filter (passes false plan p)) none)) (omega arith);
    of = λ n low high. absurd (omega (arith, high));
  }
  | inr from ↦ ranges_of plan false p t j from.at from.place from.slot_there from.are from.to
]

-- a number of two slots shows that they are one
one_slot : (plan : Plan) (s k t j n : ℕ) → k < slots plan s → j < slots plan t → first plan s k ≤ n → n < first plan s k + count plan s k → first plan t j ≤ n → n < first plan t j + count plan t j → (t ≡ s) × (j ≡ k)
one_slot plan s k t j n lk lj a c d e =
    let here = total_within (slots plan s) k (count plan s) lk in
    let there = total_within (slots plan t) j (count plan t) lj in
    elim (cases_eq t s) [
      | inl same ↦ (same, in_one (subst (λ r. first plan r j ≤ n) same d) (subst (λ r. n < first plan r j + count plan r j) same e))
      | inr ne ↦ elim (cases_lt t s) [
        | inl less ↦ absurd (let w = total_within s t (session_count plan) less in omega (arith, w, there, a, e))
        | inr more ↦ absurd (let w = total_within t s (session_count plan) (omega (arith, more, ne)) in omega (arith, w, here, c, d))
      ]
    ]
  where
    in_one : first plan s j ≤ n → n < first plan s j + count plan s j → j ≡ k
    in_one d e = elim (cases_eq j k) [
      | inl same ↦ same
      | inr ne ↦ elim (cases_lt j k) [
        | inl less ↦ absurd (let w = total_within k j (count plan s) less in omega (arith, w, a, e))
        | inr more ↦ absurd (let w = total_within j k (count plan s) (omega (arith, more, ne)) in omega (arith, w, c, d))
      ]
    ]

-- ---- one message

module _ (plan : Plan) (n : ℕ) (l : n < length (messages plan)) where
  abbrev key : Key
  key = message plan n

  is : IsThere plan key key.session key.slot
  is = there plan n l

  number_here : first plan key.session key.slot + is.place ≡ n
  number_here = sym (number_is plan key key.session key.slot is.place is.session_within is.slot_within is.place_within is.is) ∙ number_of_message plan n l

  kept_here : (f : ℕ → Instruction) (test : ℕ → Bool) → test n ≡ true → Contains (map f (filter test (numbers plan key.session key.slot))) (f n)
  kept_here f test e =
      subst (λ z. Contains (map f (filter test (numbers plan key.session key.slot))) (f z)) number_here
      (contains_kept f test (first plan key.session key.slot) (count plan key.session key.slot) is.place is.place_within (ap test number_here ∙ e))

  -- it is posted in the head of its slot
  pub head_posts : Contains (head plan key.sender key.session key.slot) (post plan n)
  head_posts = contains_right (opening plan key.sender key.session key.slot (slot plan key.session key.slot)) (posts plan key.sender key.session key.slot) (post plan n) (kept_here (post plan) (from plan key.sender) (eq-eqb key.sender key.sender refl))

  module _ (h : IsPlan plan) where
    -- and taken in the tail of the slot where those of its slot are taken
    tail_takes : Contains (tail plan key.receiver (take_session plan n) (take_slot plan n)) (take_of plan n)
    tail_takes =
        let at = taken_there plan h key.session key.slot is.session_within is.slot_within (omega (arith, is.place_within)) in
        contains_left (takes plan key.receiver (take_session plan n) (take_slot plan n)) _ (take_of plan n)
        (subst (λ ns. Contains (map (take_of plan) (filter (to plan key.receiver) ns)) (take_of plan n)) (sym at.are)
        (kept_here (take_of plan) (to plan key.receiver) (eq-eqb key.receiver key.receiver refl)))

    stands_once : (b : Bool) (kind : ℕ → Instruction) (p s k : ℕ) → told b End ≡ [] → ((i : ℕ) → told b (kind i) ≡ n ∷ []) → ((r : ℕ) → passes b plan r n ≡ true → r ≡ p)
        → standing b plan key.session key.slot ≡ (s, k) → Contains (slot_program plan p s k) (kind key.share) → StandsOnceInSlot plan kind p s k key.share
    stands_once b kind p s k ends names party stands here =
        let low : first plan key.session key.slot ≤ n = omega (arith, number_here) in
        let high : n < first plan key.session key.slot + count plan key.session key.slot = omega (arith, number_here, is.place_within) in
        record {
          position = here.0;
          within = here.1;
          stands = here.2;
          alone = λ r t j u i lj e.
              let found : told b (at (slot_program plan r t j) u) ≡ n ∷ [] = ap (told b) e ∙ names i in
              let all = ranges plan h b r t j lj in
              let his = bounds (passes b plan r) (told b) ends all.lo all.hi (slot_program plan r t j) u n all.rises found in
              let same_party : r ≡ p = party r his.2 in
              let of = all.of n his.0 his.1 in
              let same = one_slot plan key.session key.slot of.at of.place n is.slot_within of.within low high of.least of.below in
              let slot_is : (t, j) ≡ (s, k) = sym of.stands ∙ ap₂ (standing b plan) same.0 same.1 ∙ stands in
              let same_session : t ≡ s = ap (λ (x : ℕ × ℕ). x.0) slot_is in
              let same_slot : j ≡ k = ap (λ (x : ℕ × ℕ). x.1) slot_is in
              let moved : told b (at (slot_program plan p s k) u) ≡ n ∷ [] =
              ap₂ (λ x y. told b (at (slot_program plan x y k) u)) (sym same_party) (sym same_session) ∙ ap (λ y. told b (at (slot_program plan r t y) u)) (sym same_slot) ∙ found in
              let own = ranges plan h b p s k (subst (λ z. k < slots plan z) same_session (subst (λ z. z < slots plan t) same_slot lj)) in
              (same_party, same_session, same_slot, one_place (passes b plan p) (told b) ends own.lo own.hi (slot_program plan p s k) u here.0 n own.rises moved (ap (told b) here.2 ∙ names key.share));
        }

    pub once_in_slot : IsOnceInSlot plan key.session key.slot n
    once_in_slot = record {
      posted = stands_once true (Post n) key.sender key.session key.slot refl (λ i. refl) (λ x e. sym (eqb-true key.sender x e)) refl
          (contains_left (head plan key.sender key.session key.slot) (tail plan key.sender key.session key.slot) (post plan n) head_posts);
      taken = stands_once false (Take n) key.receiver (take_session plan n) (take_slot plan n) refl (λ i. refl) (λ x e. sym (eqb-true key.receiver x e)) refl
          (contains_right (head plan key.receiver (take_session plan n) (take_slot plan n)) (tail plan key.receiver (take_session plan n) (take_slot plan n)) (take_of plan n) tail_takes);
      order = same_or_later plan h key.session key.slot is.session_within is.slot_within;
    }
