-- A program takes no message twice: those that are taken in different slots stand in different ones, too.
use Rattle.std.proofs.Common.{◌≡◌, ◌≢◌, ℕ, zero, suc, ◌+◌, ◌-◌, ◌<◌, ◌≤◌, Bool, true, false, not, nat_lt, if◌then◌else◌, List, [], ◌∷◌, ◌++◌, map, length, refl, sym, ap, ap₂, ◌∙◌, subst, arith, append-nil, append_assoc}
use Rattle.std.specs.List.{AllByRecursion, filter, range_with_len}
use Rattle.std.proofs.lemmas.Bool.{cases_Bool, cases_lt, cond-true, cond-false}
use Rattle.std.proofs.lemmas.List.{get_or_past}
use mathlib.Core.Logic.{inl, inr}
use Rattle.list_laws.specs.Lists.{joined, only_if}
use Rattle.list_laws.proofs.JoinedLists.{at_append_right, every_range, every_weaker, joined_eq}
use Rattle.party_set.specs.Parties.{has_party}
use Rattle.circuit_model.specs.Circuits.{is_product}
use Rattle.session_slots.specs.declared.source.Source.{Source}
use Rattle.session_slots.specs.declared.source.Source.TheVariants.{Given, Earlier}
use Rattle.session_slots.specs.declared.values.KeptWire.{KeptWire}
use Rattle.session_slots.specs.Sessions.{Session, Slot, gate, is_direct, is_prepared, no_session, session_slots, slot_list, source}
use Rattle.session_slots.specs.Sessions.Slot.{Input, At_gate, Output, Mask, Mask_product, Masked, Kept}
use Rattle.job_session.specs.Batches.{batch, is_last}
use Rattle.job_session.proofs.BatchOrder.{batch_within}
use Rattle.plan_model.specs.declared.key.Key.{Key}
use Rattle.plan_model.specs.Plans.{IsPlan, Plan, deals_in, keeping_slot, session, slot, slot_number, slots, words_in}
use Rattle.plan_model.specs.Numbers.{deals_before}
use Rattle.plan_model.specs.Firsts.{count, first, numbers}
use Rattle.plan_model.proofs.DistinctMessages.{Distinct, distinct_joined, every_slot}
use Rattle.plan_model.proofs.KeptPlaces.{kept_in}
use Rattle.plan_model.proofs.SlotMessages.{each_number, every_filter}
use Rattle.plan_model.proofs.Slots.{at_its_number}
use Rattle.program_model.specs.declared.instruction.Instruction.{Instruction}
use Rattle.program_model.specs.declared.instruction.Instruction.TheVariants.{Draw, Deal, Take, Linear, Own, Sum, Join, Deliver}
use Rattle.program_model.specs.Programs.{program, at, from, to, post, take_of, opening, closing, posts, head, tail, tails, turn, taken, taken_as, taken_in, input_taken}
use Rattle.program_model.specs.States.{taking_slot}
use Rattle.program_model.proofs.BegunBatches.{begun, begun_is, begun_within}

-- ---- the numbers that are taken

abbrev number_of : Instruction → List ℕ
number_of (Take n i) = n ∷ []
number_of _ = []

abbrev taken_of : List Instruction → List ℕ
taken_of [] = []
taken_of (x ∷ xs) = number_of x ++ taken_of xs

of_append : (xs ys : List Instruction) → taken_of (xs ++ ys) ≡ taken_of xs ++ taken_of ys
of_append [] ys = refl
of_append (x ∷ xs) ys = ap (λ zs. number_of x ++ zs) (of_append xs ys) ∙ sym (append_assoc (number_of x) (taken_of xs) (taken_of ys))

of_joined : (n : ℕ) (f : ℕ → List Instruction) → taken_of (joined n f) ≡ joined n (λ k. taken_of (f k))
of_joined zero f = refl
of_joined (suc n) f = of_append (joined n f) (f n) ∙ ap (λ xs. xs ++ taken_of (f n)) (of_joined n f)

of_none : (b : Bool) (xs : List Instruction) → taken_of xs ≡ [] → taken_of (only_if b xs) ≡ []
of_none true xs e = e
of_none false xs e = refl

none_both : (xs ys : List Instruction) → taken_of xs ≡ [] → taken_of ys ≡ [] → taken_of (xs ++ ys) ≡ []
none_both xs ys e f = of_append xs ys ∙ ap₂ (λ a b. a ++ b) e f

of_posts : (plan : Plan) (ns : List ℕ) → taken_of (map (post plan) ns) ≡ []
of_posts plan [] = refl
of_posts plan (n ∷ ns) = of_posts plan ns

of_takes : (plan : Plan) (ns : List ℕ) → taken_of (map (take_of plan) ns) ≡ ns
of_takes plan [] = refl
of_takes plan (n ∷ ns) = ap (λ xs. n ∷ xs) (of_takes plan ns)

joined_split : {A : Type 0} (a n : ℕ) (f : ℕ → List A) → joined a f ++ joined n (λ j. f (a + j)) ≡ joined (a + n) f
joined_split a zero f = append-nil (joined a f) ∙ (let none : a ≡ a + 0 = omega arith in ap (λ m. joined m f) none)
joined_split a (suc n) f =
    let next : suc (a + n) ≡ a + suc n = omega arith in
    sym (append_assoc (joined a f) (joined n (λ j. f (a + j))) (f (a + n))) ∙ ap (λ xs. xs ++ f (a + n)) (joined_split a n f) ∙ ap (λ m. joined m f) next

module _ (plan : Plan) (p s : ℕ) where
  of_opening : (k : ℕ) (z : Slot) → taken_of (opening plan p s k z) ≡ []
  of_opening k (Input v) = of_none (deals_in plan s p (Input v)) (Deal k (deals_before plan p s k) ∷ []) refl
  of_opening k (At_gate t) =
      none_both (only_if (deals_in plan s p (At_gate t)) (Own k ∷ Deal k (deals_before plan p s k) ∷ [])) (only_if (not (is_product (gate (session plan s) t).operation)) (Linear k ∷ []))
      (of_none (deals_in plan s p (At_gate t)) (Own k ∷ Deal k (deals_before plan p s k) ∷ []) refl) (of_none (not (is_product (gate (session plan s) t).operation)) (Linear k ∷ []) refl)
  of_opening k (Output o) = refl
  of_opening k (Mask t side) = of_none (nat_lt 0 (words_in plan s p (Mask t side))) (Draw k ∷ []) refl
  of_opening k (Mask_product t) = of_none (deals_in plan s p (Mask_product t)) (Own k ∷ Deal k (deals_before plan p s k) ∷ []) refl
  of_opening k (Masked t side) = refl
  of_opening k (Kept j) = refl

  of_closing : (k : ℕ) (z : Slot) → taken_of (closing plan p s k z) ≡ []
  of_closing k (Input v) = refl
  of_closing k (At_gate t) =
      none_both (only_if (is_direct (session plan s) t) (Sum k ∷ [])) (only_if (is_prepared (session plan s) t) (Join k ∷ []))
      (of_none (is_direct (session plan s) t) (Sum k ∷ []) refl) (of_none (is_prepared (session plan s) t) (Join k ∷ []) refl)
  of_closing k (Output o) = of_none (has_party _ p) (Deliver k ∷ []) refl
  of_closing k (Mask t side) = refl
  of_closing k (Mask_product t) = refl
  of_closing k (Masked t side) = refl
  of_closing k (Kept j) = refl

  -- what p takes in slot k
  abbrev own : ℕ → List ℕ
  own k = filter (to plan p) (taken plan s k)

  of_head : (k : ℕ) → taken_of (head plan p s k) ≡ []
  of_head k = none_both (opening plan p s k (slot plan s k)) (posts plan p s k) (of_opening k (slot plan s k)) (of_posts plan (filter (from plan p) (numbers plan s k)))

  of_tail : (k : ℕ) → taken_of (tail plan p s k) ≡ own k
  of_tail k =
      of_append (map (take_of plan) (own k)) (closing plan p s k (slot plan s k))
      ∙ ap₂ (λ a b. a ++ b) (of_takes plan (own k)) (of_closing k (slot plan s k)) ∙ append-nil (own k)

  abbrev x : Session
  x = session plan s

  -- of the first k turns: those of the slots up to the first one whose tail is still to come
  of_turns : (k : ℕ) → k ≤ slots plan s → taken_of (joined k (turn plan p s)) ≡ joined (begun x k) own
  of_turns zero l = refl
  of_turns (suc k) l =
      let a : ℕ = batch x k in
      let rest : List Instruction = only_if (is_last x k) (tails plan p s a (suc k)) in
      let before : taken_of (joined k (turn plan p s)) ≡ joined a own = of_turns k (omega (arith, l)) ∙ ap (λ m. joined m own) (begun_is x k (omega (arith, l))) in
      let here : taken_of (turn plan p s k) ≡ taken_of rest = of_append (head plan p s k) rest ∙ ap (λ xs. xs ++ taken_of rest) (of_head k) in
      of_append (joined k (turn plan p s)) (turn plan p s k) ∙ ap₂ (λ a b. a ++ b) before here
      ∙ elim (cases_Bool (is_last x k)) [
        | inl e ↦
            let c = batch_within x k in
            let all : a + (suc k - a) ≡ suc k = omega (arith, c) in
            subst (λ b. joined a own ++ taken_of (only_if b (tails plan p s a (suc k))) ≡ joined (if b then suc k else a) own) (sym e)
            (ap (λ xs. joined a own ++ xs) (of_joined (suc k - a) (λ j. tail plan p s (a + j)) ∙ joined_eq (suc k - a) _ _ (λ j l. of_tail (a + j)))
            ∙ joined_split a (suc k - a) own ∙ ap (λ m. joined m own) all)
        | inr e ↦ subst (λ b. joined a own ++ taken_of (only_if b (tails plan p s a (suc k))) ≡ joined (if b then suc k else a) own) (sym e) (append-nil (joined a own))
      ]

-- ---- each in its slot

distinct_range : (a n : ℕ) → Distinct (range_with_len a n)
distinct_range a zero = tt
distinct_range a (suc n) = (every_range (λ y. a ≢ y) (a + 1) n (λ i l e. absurd (omega (arith, e))), distinct_range (a + 1) n)

distinct_filter : (test : ℕ → Bool) (ns : List ℕ) → Distinct ns → Distinct (filter test ns)
distinct_filter test [] h = tt
distinct_filter test (n ∷ ns) h = elim (cases_Bool (test n)) [
  | inl e ↦ subst Distinct (sym (cond-true (test n) (n ∷ filter test ns) (filter test ns) e)) (every_filter (λ y. n ≢ y) (λ y. n ≢ y) test ns h.0 (λ y ne is. ne), distinct_filter test ns h.1)
  | inr e ↦ subst Distinct (sym (cond-false (test n) (n ∷ filter test ns) (filter test ns) e)) (distinct_filter test ns h.1)
]

no_slots : session_slots no_session ≡ 0
unfolding slot_list
no_slots = refl

module _ (plan : Plan) (is : IsPlan plan) (p s : ℕ) where
  -- the number of the slot in which a message is taken
  abbrev taken_at : ℕ → ℕ
  taken_at n = slot_number plan s (taking_slot plan n)

  -- the messages of slot m of session r are taken where that slot's are
  at_slot : (r m k : ℕ) → r < length plan.sessions → m < slots plan r → slot_number plan s (taken_as (session plan r) (slot plan r m)) ≡ k → AllByRecursion (λ n. taken_at n ≡ k) (numbers plan r m)
  at_slot r m k lr lm e =
      every_weaker _ (λ n. taken_at n ≡ k) (numbers plan r m)
      (λ n h. ap₂ (λ r m. slot_number plan s (taken_as (session plan r) (slot plan r m))) h.1.0 h.1.1 ∙ e)
      (each_number plan r m lr lm (λ (key : Key). (key.session ≡ r) × (key.slot ≡ m)) (every_slot (λ (key : Key). (key.session ≡ r) × (key.slot ≡ m)) plan r m (slot plan r m) (λ i p q. (refl, refl))))

  module _ (k : ℕ) (ls : s < length plan.sessions) (lk : k < slots plan s) where
    own_slot : (z : Slot) → slot plan s k ≡ z → taken_as (session plan s) z ≡ z → AllByRecursion (λ n. taken_at n ≡ k) (numbers plan s k)
    own_slot z e same = at_slot s k k ls lk (ap (λ z. slot_number plan s (taken_as (session plan s) z)) e ∙ ap (slot_number plan s) (same ∙ sym e) ∙ at_its_number plan s k lk)

    input_slot : (v : ℕ) → slot plan s k ≡ Input v → (from : Source) → source (session plan s) v ≡ from → AllByRecursion (λ n. taken_at n ≡ k) (input_taken plan s k v from)
    input_slot v e (Given q) same = own_slot (Input v) e refl
    input_slot v e (Earlier r c i) same =
        let at = kept_in plan is s v r c i same in
        at_slot r (keeping_slot plan s v r) k (omega (arith, at.earlier, ls)) at.slot_there
        (ap (λ z. slot_number plan s (taken_as (session plan r) z)) at.slot_is
        ∙ ap (λ (kept : KeptWire). slot_number plan s (Input kept.wire)) at.kept ∙ ap (slot_number plan s) (sym e) ∙ at_its_number plan s k lk)

    each_slot : (z : Slot) → slot plan s k ≡ z → AllByRecursion (λ n. taken_at n ≡ k) (taken_in plan s k z)
    each_slot (Input v) e = input_slot v e (source (session plan s) v) refl
    each_slot (At_gate t) e = own_slot (At_gate t) e refl
    each_slot (Output o) e = own_slot (Output o) e refl
    each_slot (Mask t side) e = own_slot (Mask t side) e refl
    each_slot (Mask_product t) e = own_slot (Mask_product t) e refl
    each_slot (Masked t side) e = own_slot (Masked t side) e refl
    each_slot (Kept j) e = tt

  distinct_input : (k v : ℕ) (from : Source) → Distinct (input_taken plan s k v from)
  distinct_input k v (Given q) = distinct_range (first plan s k) (count plan s k)
  distinct_input k v (Earlier r c i) = distinct_range (first plan r (keeping_slot plan s v r)) (count plan r (keeping_slot plan s v r))

  distinct_slot : (k : ℕ) (z : Slot) → Distinct (taken_in plan s k z)
  distinct_slot k (Input v) = distinct_input k v (source (session plan s) v)
  distinct_slot k (At_gate t) = distinct_range (first plan s k) (count plan s k)
  distinct_slot k (Output o) = distinct_range (first plan s k) (count plan s k)
  distinct_slot k (Mask t side) = distinct_range (first plan s k) (count plan s k)
  distinct_slot k (Mask_product t) = distinct_range (first plan s k) (count plan s k)
  distinct_slot k (Masked t side) = distinct_range (first plan s k) (count plan s k)
  distinct_slot k (Kept j) = tt

  there : (k : ℕ) → k < slots plan s → s < length plan.sessions
  there k l = elim (cases_lt s (length plan.sessions)) [
    | inl less ↦ less
    | inr past ↦ absurd (let none : slots plan s ≡ 0 = ap session_slots (get_or_past plan.sessions s no_session past) ∙ no_slots in omega (arith, l, none))
  ]

  distinct_program : Distinct (taken_of (program plan p s))
  distinct_program =
      let end = begun_within (session plan s) (slots plan s) in
      subst Distinct (sym (of_turns plan p s (slots plan s) (omega arith)))
      (distinct_joined taken_at (begun (session plan s) (slots plan s)) (own plan p s) (λ k l. distinct_filter (to plan p) (taken plan s k) (distinct_slot k (slot plan s k)))
      (λ k l. (
      let lk : k < slots plan s = omega (arith, l, end) in
      every_filter (λ n. taken_at n ≡ k) (λ n. taken_at n ≡ k) (to plan p) (taken plan s k) (each_slot k (there k lk) lk (slot plan s k) refl) (λ n e is. e)
      )))

-- ---- by position

among : (P : ℕ → Type 0) (xs : List Instruction) (r m j : ℕ) → AllByRecursion P (taken_of xs) → at xs r ≡ Take m j → P m
among P [] r m j h e = absurd (cc)
among P (x ∷ xs) zero m j h e = (subst (λ y. AllByRecursion P (number_of y ++ taken_of xs)) e h).0
among P (x ∷ xs) (suc r) m j h e = among P xs r m j (at_append_right P (number_of x) (taken_of xs) h) e

distinct_right : (xs ys : List ℕ) → Distinct (xs ++ ys) → Distinct ys
distinct_right [] ys h = h
distinct_right (x ∷ xs) ys h = distinct_right xs ys h.1

differ : (xs : List Instruction) (q r n i m j : ℕ) → Distinct (taken_of xs) → q < r → at xs q ≡ Take n i → at xs r ≡ Take m j → n ≢ m
differ [] q r n i m j h l e f = absurd (cc)
differ (x ∷ xs) zero zero n i m j h l e f = absurd (omega (arith, l))
differ (x ∷ xs) zero (suc r) n i m j h l e f = among (λ y. n ≢ y) xs r m j (subst (λ y. Distinct (number_of y ++ taken_of xs)) e h).0 f
differ (x ∷ xs) (suc q) zero n i m j h l e f = absurd (omega (arith, l))
differ (x ∷ xs) (suc q) (suc r) n i m j h l e f = differ xs q r n i m j (distinct_right (number_of x) (taken_of xs) h) (omega (arith, l)) e f

pub takes_differ : (plan : Plan) (s p q r n i m j : ℕ) → IsPlan plan → q < r → at (program plan p s) q ≡ Take n i → at (program plan p s) r ≡ Take m j → n ≢ m
takes_differ plan s p q r n i m j is l e f = differ (program plan p s) q r n i m j (distinct_program plan is p s) l e f
