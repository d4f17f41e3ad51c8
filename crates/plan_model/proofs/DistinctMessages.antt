-- Messages differ, and so do places.
use Rattle.std.proofs.Common.{◌≡◌, ℕ, zero, suc, ◌<◌, ◌≢◌, Bool, true, false, nat_eq, List, [], ◌∷◌, ◌++◌, length, refl, sym, ap, ◌∙◌, arith}
use Rattle.std.specs.Prelude.{slice_index, slice_index_or}
use Rattle.std.specs.List.{AllByRecursion}
use Rattle.std.proofs.lemmas.Bool.{and_parts, and_from, eq-eqb, eqb-true, false_from_ne_true}
use Rattle.std.proofs.lemmas.List.Sums.{position_or_len_is, passes_at_first}
use Rattle.list_laws.specs.Lists.{joined, listed, only_if}
use Rattle.session_slots.specs.declared.source.Source.{Source}
use Rattle.session_slots.specs.declared.source.Source.TheVariants.{Given, Earlier}
use Rattle.session_slots.specs.Sessions.{Slot, source}
use Rattle.plan_model.specs.Plans.{Plan, session, slot, slots, holder_of, words_in, deals_in, opens_to}
use Rattle.plan_model.specs.declared.key.Key.{Key}
use Rattle.plan_model.specs.Messages.{messages, slot_messages, deal_message, input_messages, kept_messages, open_messages, product_messages}
use Rattle.session_slots.specs.Sessions.Slot.{Input, At_gate, Output, Mask, Mask_product, Masked, Kept}
use Rattle.plan_model.specs.Numbers.{same_key, no_key, message, number, NumbersAreInverse, PlacesDiffer}
use Rattle.list_laws.proofs.JoinedLists.{every_append, every_joined, every_only_if, every_weaker, laid_at}

-- ---- lists whose elements differ

abbrev pub Distinct : {A : Type 0} → List A → Type 0
Distinct [] = Unit {0}
Distinct (x ∷ xs) = AllByRecursion (λ y. x ≢ y) xs × Distinct xs

distinct_append : {A : Type 0} (tag : A → ℕ) (n : ℕ) (xs ys : List A) → AllByRecursion (λ x. tag x < n) xs → AllByRecursion (λ y. tag y ≡ n) ys → Distinct xs → Distinct ys → Distinct (xs ++ ys)
distinct_append tag n [] ys a b d e = e
distinct_append tag n (x ∷ xs) ys a b d e =
    (every_append (λ y. x ≢ y) xs ys d.0 (every_weaker (λ y. tag y ≡ n) (λ y. x ≢ y) ys (λ y h same. omega (arith, a.0, h, ap tag same)) b), distinct_append tag n xs ys a.1 b d.1 e)

-- parts with a tag of their own
pub distinct_joined : {A : Type 0} (tag : A → ℕ) (n : ℕ) (f : ℕ → List A) → ((k : ℕ) → k < n → Distinct (f k)) → ((k : ℕ) → k < n → AllByRecursion (λ x. tag x ≡ k) (f k)) → Distinct (joined n f)
distinct_joined tag zero f d t = tt
distinct_joined tag (suc n) f d t =
    distinct_append tag n (joined n f) (f n)
    (every_joined (λ x. tag x < n) n f (λ k l. every_weaker (λ x. tag x ≡ k) (λ x. tag x < n) (f k) (λ x h. omega (arith, h, l)) (t k (omega arith))))
    (t n (omega arith)) (distinct_joined tag n f (λ k l. d k (omega arith)) (λ k l. t k (omega arith))) (d n (omega arith))

distinct_only_if : {A : Type 0} (b : Bool) (xs : List A) → Distinct xs → Distinct (only_if b xs)
distinct_only_if true xs d = d
distinct_only_if false xs d = tt

pub every_one : {A : Type 0} (P : A → Type 0) (b : Bool) (x : A) → P x → AllByRecursion P (only_if b (x ∷ []))
every_one P true x h = (h, tt)
every_one P false x h = tt

distinct_one : {A : Type 0} (b : Bool) (x : A) → Distinct (only_if b (x ∷ []))
distinct_one true x = (tt, tt)
distinct_one false x = tt

pub every_place : {A : Type 0} (P : A → Type 0) (xs : List A) (j : ℕ) (d : A) → AllByRecursion P xs → j < length xs → P (slice_index_or xs j d)
every_place P [] j d h l = absurd (omega arith)
every_place P (x ∷ xs) zero d h l = h.0
every_place P (x ∷ xs) (suc j) d h l = every_place P xs j d h.1 (omega arith)

distinct_at : {A : Type 0} (xs : List A) (i j : ℕ) (d : A) → Distinct xs → i < j → j < length xs → slice_index_or xs i d ≢ slice_index_or xs j d
distinct_at [] i j d h l b e = omega arith
distinct_at (x ∷ xs) zero zero d h l b e = omega arith
distinct_at (x ∷ xs) zero (suc j) d h l b e = every_place (λ y. x ≢ y) xs j d h.0 (omega arith) e
distinct_at (x ∷ xs) (suc i) zero d h l b e = omega arith
distinct_at (x ∷ xs) (suc i) (suc j) d h l b e = distinct_at xs i j d h.1 (omega arith) (omega arith) e

-- ---- messages

-- summand i of a deal by another sender for each summand
abbrev rows : Plan → ℕ → ℕ → (ℕ → ℕ) → List Key
rows plan s k sender = joined (length plan.groups) (λ i. joined plan.parties (deal_message plan s k (sender i) i))

rows_distinct : (plan : Plan) (s k : ℕ) (sender : ℕ → ℕ) → Distinct (rows plan s k sender)
rows_distinct plan s k sender =
    distinct_joined (λ x. x.share) (length plan.groups) _
    (λ i li. distinct_joined (λ x. x.receiver) plan.parties _ (λ q lq. distinct_one _ _) (λ q lq. every_one (λ x. x.receiver ≡ q) _ _ refl))
    (λ i li. every_joined (λ x. x.share ≡ i) plan.parties _ (λ q lq. every_one (λ x. x.share ≡ i) _ _ refl))

open_distinct : (plan : Plan) (s k r : ℕ) → Distinct (open_messages plan s k r)
open_distinct plan s k r =
    distinct_joined (λ x. x.share) (length plan.groups) _ (λ i li. distinct_one _ _) (λ i li. every_one (λ x. x.share ≡ i) _ _ refl)

-- what holds of each message that a slot may have holds of those that it has
module _ (P : Key → Type 0) (plan : Plan) (s k : ℕ) (h : (i p q : ℕ) → i < length plan.groups → P (record { session = s; slot = k; share = i; sender = p; receiver = q })) where
  every_row : (sender : ℕ → ℕ) → AllByRecursion P (rows plan s k sender)
  every_row sender = every_joined P (length plan.groups) _ (λ i li. every_joined P plan.parties _ (λ q lq. every_one P _ _ (h i (sender i) q li)))

  every_open : (r : ℕ) → AllByRecursion P (open_messages plan s k r)
  every_open r = every_joined P (length plan.groups) _ (λ i li. every_one P _ _ (h i (holder_of plan i) r li))

  every_product : (z : Slot) → AllByRecursion P (product_messages plan s k z)
  every_product z = every_joined P plan.parties _ (λ p lp. every_only_if P (deals_in plan s p z) _ (λ e. every_row (λ i. p)))

  every_input : (from : Source) → AllByRecursion P (input_messages plan s k from)
  every_input (Given p) = every_row (λ i. p)
  every_input (Earlier r c i) = tt

  every_kept : AllByRecursion P (kept_messages plan s k)
  every_kept = every_joined P (length plan.groups) _ (λ i li. every_joined P plan.parties _ (λ p lp. every_one P _ _ (h i p p li)))

  pub every_summand : (z : Slot) → AllByRecursion P (slot_messages plan s k z)
  every_summand (Input v) = every_input (source (session plan s) v)
  every_summand (At_gate t) = every_product (At_gate t)
  every_summand (Output o) = every_joined P plan.parties _ (λ r lr. every_only_if P (opens_to plan s r (Output o)) _ (λ e. every_open r))
  every_summand (Mask t side) = every_row (holder_of plan)
  every_summand (Mask_product t) = every_product (Mask_product t)
  every_summand (Masked t side) = every_joined P plan.parties _ (λ r lr. every_open r)
  every_summand (Kept j) = every_kept

pub every_slot : (P : Key → Type 0) (plan : Plan) (s k : ℕ) (z : Slot) → ((i p q : ℕ) → P (record { session = s; slot = k; share = i; sender = p; receiver = q })) → AllByRecursion P (slot_messages plan s k z)
every_slot P plan s k z h = every_summand P plan s k (λ i p q li. h i p q) z

product_distinct : (plan : Plan) (s k : ℕ) (z : Slot) → Distinct (product_messages plan s k z)
product_distinct plan s k z =
    distinct_joined (λ x. x.sender) plan.parties _ (λ p lp. distinct_only_if (deals_in plan s p z) _ (rows_distinct plan s k (λ i. p)))
    (λ p lp. every_only_if (λ x. x.sender ≡ p) (deals_in plan s p z) _ (λ e. every_joined (λ x. x.sender ≡ p) (length plan.groups) _ (λ i li. every_joined (λ x. x.sender ≡ p) plan.parties _ (λ q lq. every_one (λ x. x.sender ≡ p) _ _ refl))))

-- openings to one receiver after another
opens_distinct : (plan : Plan) (s k : ℕ) (wanted : ℕ → Bool) → Distinct (joined plan.parties (λ r. only_if (wanted r) (open_messages plan s k r)))
opens_distinct plan s k wanted =
    distinct_joined (λ x. x.receiver) plan.parties _ (λ r lr. distinct_only_if (wanted r) _ (open_distinct plan s k r))
    (λ r lr. every_only_if (λ x. x.receiver ≡ r) (wanted r) _ (λ e. every_joined (λ x. x.receiver ≡ r) (length plan.groups) _ (λ i li. every_one (λ x. x.receiver ≡ r) _ _ refl)))

input_distinct : (plan : Plan) (s k : ℕ) (from : Source) → Distinct (input_messages plan s k from)
input_distinct plan s k (Given p) = rows_distinct plan s k (λ i. p)
input_distinct plan s k (Earlier r c i) = tt

kept_distinct : (plan : Plan) (s k : ℕ) → Distinct (kept_messages plan s k)
kept_distinct plan s k =
    distinct_joined (λ x. x.share) (length plan.groups) _
    (λ i li. distinct_joined (λ x. x.receiver) plan.parties _ (λ p lp. distinct_one _ _) (λ p lp. every_one (λ x. x.receiver ≡ p) _ _ refl))
    (λ i li. every_joined (λ x. x.share ≡ i) plan.parties _ (λ p lp. every_one (λ x. x.share ≡ i) _ _ refl))

slot_distinct : (plan : Plan) (s k : ℕ) (z : Slot) → Distinct (slot_messages plan s k z)
slot_distinct plan s k (Input v) = input_distinct plan s k (source (session plan s) v)
slot_distinct plan s k (At_gate t) = product_distinct plan s k (At_gate t)
slot_distinct plan s k (Output o) = opens_distinct plan s k (λ r. opens_to plan s r (Output o))
slot_distinct plan s k (Mask t side) = rows_distinct plan s k (holder_of plan)
slot_distinct plan s k (Mask_product t) = product_distinct plan s k (Mask_product t)
slot_distinct plan s k (Masked t side) = opens_distinct plan s k (λ r. true)
slot_distinct plan s k (Kept j) = kept_distinct plan s k

messages_distinct : (plan : Plan) → Distinct (messages plan)
messages_distinct plan =
    distinct_joined (λ x. x.session) (length plan.sessions) _
    (λ s ls. distinct_joined (λ x. x.slot) (slots plan s) _ (λ k lk. slot_distinct plan s k (slot plan s k))
    (λ k lk. every_slot (λ x. x.slot ≡ k) plan s k (slot plan s k) (λ i p q. refl)))
    (λ s ls. every_joined (λ x. x.session ≡ s) (slots plan s) _ (λ k lk. every_slot (λ x. x.session ≡ s) plan s k (slot plan s k) (λ i p q. refl)))

pub same_key-true : (a b : Key) → same_key a b ≡ true → a ≡ b
same_key-true a b e =
    let first = and_parts (nat_eq a.session b.session) _ e in
    let second = and_parts (nat_eq a.slot b.slot) _ first.1 in
    let third = and_parts (nat_eq a.share b.share) _ second.1 in
    let fourth = and_parts (nat_eq a.sender b.sender) _ third.1 in
    let e1 = eqb-true _ _ first.0 in
    let e2 = eqb-true _ _ second.0 in
    let e3 = eqb-true _ _ third.0 in
    let e4 = eqb-true _ _ fourth.0 in
    let e5 = eqb-true _ _ fourth.1 in
    λ i. record { session = e1 i; slot = e2 i; share = e3 i; sender = e4 i; receiver = e5 i }

pub same_key_self : (a : Key) → same_key a a ≡ true
same_key_self a = and_from _ _ (eq-eqb a.session a.session refl) (and_from _ _ (eq-eqb a.slot a.slot refl) (and_from _ _ (eq-eqb a.share a.share refl) (and_from _ _ (eq-eqb a.sender a.sender refl) (eq-eqb a.receiver a.receiver refl))))

pub number_of_message : (plan : Plan) (n : ℕ) → n < length (messages plan) → number plan (message plan n) ≡ n
number_of_message plan n l =
    position_or_len_is (same_key (message plan n)) (messages plan) n no_key (omega arith)
    (λ k b. false_from_ne_true _ (λ e. distinct_at (messages plan) k n no_key (messages_distinct plan) b l (sym (same_key-true (message plan n) (message plan k) e))))
    (λ b. same_key_self (message plan n))

pub numbers_are_inverse : (plan : Plan) → NumbersAreInverse plan
numbers_are_inverse plan = (number_of_message plan, λ key l. sym (same_key-true key (message plan (number plan key)) (passes_at_first (same_key key) (messages plan) no_key l)))

-- ---- places

pub places_differ : (plan : Plan) (p : ℕ) → PlacesDiffer plan p
places_differ plan p s k i s' k' i' ls lk li ls' lk' li' e =
    let count : ℕ → ℕ = λ r. slots plan r in
    let len : ℕ → ℕ → ℕ = λ r j. words_in plan r p (slot plan r j) in
    let tells : (f : ℕ → ℕ → ℕ → ℕ) → f s k i ≡ f s' k' i' = λ f.
    sym (laid_at (length plan.sessions) count len f s k i ls lk li) ∙ ap (slice_index (joined (length plan.sessions) (λ r. joined (count r) (λ j. listed (len r j) (f r j))))) e
    ∙ laid_at (length plan.sessions) count len f s' k' i' ls' lk' li' in
    (tells (λ s k i. s), tells (λ s k i. k), tells (λ s k i. i))
