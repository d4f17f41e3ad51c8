-- The heads and tails of a program: what stands in them, and what each of their instructions names.
use Rattle.std.proofs.Common.{◌≡◌, ◌≢◌, ℕ, zero, suc, ◌+◌, ◌-◌, ◌<◌, ◌≤◌, Bool, true, false, not, nat_lt, List, [], ◌∷◌, ◌++◌, map, length, refl, sym, ap, ◌∙◌, subst, arith, length-append}
use Rattle.std.specs.List.{AllByRecursion, filter}
use Rattle.std.proofs.lemmas.Bool.{cases_lt, cond-true, and_from, and_parts, eqb-true, false≢true, ltb-true}
use Rattle.std.proofs.lemmas.List.{get_or_past, get_or-append-add}
use Rattle.std.proofs.Math.ListN.{get_or-append}
use mathlib.Core.Logic.{inl, inr}
use Rattle.list_laws.specs.Lists.{joined, only_if}
use Rattle.list_laws.proofs.JoinedLists.{every_joined, every_only_if, every_append}
use Rattle.circuit_model.specs.Circuits.{is_product}
use Rattle.secret_sharing.specs.Schemes.{has_pair}
use Rattle.session_slots.specs.Sessions.{Session, Slot, gate, is_direct, is_prepared}
use Rattle.session_slots.specs.declared.side.Side.{Side}
use Rattle.session_slots.specs.Sessions.Slot.{Input, At_gate, Output, Mask, Mask_product, Masked, Kept}
use Rattle.plan_model.specs.Plans.{Plan, IsPlan, scheme, session, slot, slots, deals_in, opens_to, gives, words_in}
use Rattle.plan_model.specs.Firsts.{numbers}
use Rattle.plan_model.specs.Messages.{messages}
use Rattle.plan_model.specs.Numbers.{message, deals_before}
use Rattle.plan_model.specs.Sound.{IsSound}
use Rattle.plan_model.proofs.PlanSchemes.{plan_is}
use Rattle.plan_model.proofs.SlotMessages.{every_filter}
use Rattle.job_session.specs.Batches.{batch, is_last}
use Rattle.program_model.specs.declared.instruction.Instruction.{Instruction}
use Rattle.program_model.specs.declared.instruction.Instruction.TheVariants.{Draw, Deal, Post, Take, Linear, Own, Sum, Open, Join, Deliver, End}
use Rattle.program_model.specs.Programs.{at, from, to, post, take_of, opening, closing, posts, taken, takes, head, tail, tails, turn, program, slot_program}
use Rattle.program_model.specs.Proper.{IsMask, IsMasked, IsOutput}
use Rattle.job_session.proofs.BatchOrder.{batch_within, last_of}
use Rattle.program_laws.specs.Once.{take_slot}
use Rattle.program_laws.proofs.ContainedInstructions.{Contains, contains_left, contains_right, contains_joined}
use Rattle.program_laws.proofs.SentMessages.{Of, each, givers}
use Rattle.program_laws.proofs.TakenMessages.{IsTakenIn, all_taken}

pub at_within : (P : Instruction → Type 0) (es : List Instruction) (q : ℕ) → q < length es → AllByRecursion P es → P (at es q)
at_within P [] q l h = absurd (omega arith)
at_within P (e ∷ es) zero l h = h.0
at_within P (e ∷ es) (suc q) l h = at_within P es q (omega arith) h.1

pub is_within : (es : List Instruction) (q : ℕ) → at es q ≢ End → q < length es
is_within es q ne = elim (cases_lt q (length es)) [ inl l ↦ l | inr past ↦ absurd (ne (get_or_past es q End past)) ]

pub every_map : {A : Type 0} (Q : A → Type 0) (f : ℕ → A) (ns : List ℕ) → AllByRecursion (λ n. Q (f n)) ns → AllByRecursion Q (map f ns)
every_map Q f [] h = tt
every_map Q f (n ∷ ns) h = (h.0, every_map Q f ns h.1)

-- a product is dealt in the slot: of the gate, or of the masks of its wires
abbrev pub Multiplied : Session → Slot → Type 0
Multiplied x (At_gate t) = is_direct x t ≡ true
Multiplied x (Mask_product t) = Unit {0}
Multiplied x _ = ⊥

-- ---- what stands in a program

module _ (plan : Plan) (s p : ℕ) where
  pub head_in : (k : ℕ) (e : Instruction) → k < slots plan s → Contains (head plan p s k) e → Contains (program plan p s) e
  head_in k e lk h = contains_joined (slots plan s) k (turn plan p s) e lk (contains_left (head plan p s k) _ e h)

  pub tail_in : (j : ℕ) (e : Instruction) → j < slots plan s → Contains (tail plan p s j) e → Contains (program plan p s) e
  tail_in j e lj h =
      let x : Session = session plan s in
      let last = last_of x (slots plan s - suc j) j (omega arith) in
      let k : ℕ = last.0 in
      let a : ℕ = batch x k in
      let to : j ≤ k = last.1 in
      let b : a ≡ batch x j = last.4 in
      let c : batch x j ≤ j = batch_within x j in
      let here : a + (j - a) ≡ j = omega arith in
      let all : Contains (tails plan p s a (suc k)) e =
      contains_joined (suc k - a) (j - a) (λ i. tail plan p s (a + i)) e (omega arith) (subst (λ z. Contains (tail plan p s z) e) (sym here) h) in
      contains_joined (slots plan s) k (turn plan p s) e last.2 (contains_right (head plan p s k) _ e
      (subst (λ z. Contains z e) (sym (cond-true (is_last x k) (tails plan p s a (suc k)) [] last.3)) all))

  pub slot_in : (k : ℕ) (e : Instruction) → k < slots plan s → Contains (slot_program plan p s k) e → Contains (program plan p s) e
  slot_in k e lk h =
      let es : List Instruction = head plan p s k in
      let ts : List Instruction = tail plan p s k in
      elim (cases_lt h.0 (length es)) [
        | inl l ↦ head_in k e lk (h.0, l, sym (get_or-append es ts End h.0 l) ∙ h.2)
        | inr past ↦
            let same : length es + (h.0 - length es) ≡ h.0 = omega (arith, past) in
            tail_in k e lk (h.0 - length es, omega (arith, past, h.1, length-append es ts), sym (get_or-append-add es ts (h.0 - length es) End) ∙ ap (at (es ++ ts)) same ∙ h.2)
      ]

  -- what holds of each instruction of the heads and tails holds of all, by batches and slot after slot
  module _ (Q : Instruction → Type 0) (heads : (k : ℕ) → k < slots plan s → AllByRecursion Q (head plan p s k)) (ends : (k : ℕ) → k < slots plan s → AllByRecursion Q (tail plan p s k)) where
    pub all_parts : AllByRecursion Q (program plan p s)
    all_parts = every_joined Q (slots plan s) (turn plan p s) (λ k lk.
        every_append Q (head plan p s k) _ (heads k lk) (every_only_if Q (is_last (session plan s) k) _ (λ e.
        every_joined Q (suc k - batch (session plan s) k) _ (λ j lj. ends (batch (session plan s) k + j) (let c = batch_within (session plan s) k in omega arith)))))

    pub slot_parts : AllByRecursion Q (joined (slots plan s) (slot_program plan p s))
    slot_parts = every_joined Q (slots plan s) (slot_program plan p s) (λ k lk. every_append Q (head plan p s k) (tail plan p s k) (heads k lk) (ends k lk))

  -- ---- the instructions of a head and of a tail

  module _ (Q : Instruction → Type 0) (k : ℕ) where
    -- Q of each instruction that an opening may have
    pub record OfOpening : Type 0 where
      pub draws : (t : ℕ) (side : Side) → slot plan s k ≡ Mask t side → 0 < words_in plan s p (Mask t side) → Q (Draw k)
      pub inputs : (v : ℕ) → slot plan s k ≡ Input v → gives plan s p v ≡ true → Q (Deal k (deals_before plan p s k))
      pub products : (z : Slot) → slot plan s k ≡ z → Multiplied (session plan s) z → has_pair (scheme plan) p ≡ true → Q (Own k) × Q (Deal k (deals_before plan p s k))
      pub linears : (t : ℕ) → slot plan s k ≡ At_gate t → is_product (gate (session plan s) t).operation ≡ false → Q (Linear k)

    -- and of each that a closing may have
    pub record OfClosing : Type 0 where
      pub sums : (z : Slot) → slot plan s k ≡ z → Multiplied (session plan s) z → Q (Sum k)
      pub opens : (t : ℕ) (side : Side) → slot plan s k ≡ Masked t side → Q (Open k)
      pub joins : (t : ℕ) → slot plan s k ≡ At_gate t → is_prepared (session plan s) t ≡ true → Q (Join k)
      pub delivers : (o : ℕ) → slot plan s k ≡ Output o → Q (Deliver k)

    pub every_opening : OfOpening → AllByRecursion Q (opening plan p s k (slot plan s k))
    every_opening each = opens (slot plan s k) refl
      where
        is_not : (b : Bool) → not b ≡ true → b ≡ false
        is_not true e = absurd (false≢true e)
        is_not false e = refl

        both : (z : Slot) → slot plan s k ≡ z → Multiplied (session plan s) z → has_pair (scheme plan) p ≡ true → AllByRecursion Q (Own k ∷ Deal k (deals_before plan p s k) ∷ [])
        both z e m h = let two = each.products z e m h in (two.0, (two.1, tt))

        opens : (z : Slot) → slot plan s k ≡ z → AllByRecursion Q (opening plan p s k z)
        opens (Input v) e = every_only_if Q (deals_in plan s p (Input v)) _ (λ b. (each.inputs v e b, tt))
        opens (At_gate t) e = every_append Q (only_if (deals_in plan s p (At_gate t)) (Own k ∷ Deal k (deals_before plan p s k) ∷ [])) (only_if (not (is_product (gate (session plan s) t).operation)) (Linear k ∷ []))
            (every_only_if Q (deals_in plan s p (At_gate t)) _ (λ b. let two = and_parts (is_direct (session plan s) t) (has_pair (scheme plan) p) b in both (At_gate t) e two.0 two.1))
            (every_only_if Q (not (is_product (gate (session plan s) t).operation)) _ (λ b. (each.linears t e (is_not _ b), tt)))
        opens (Output o) e = tt
        opens (Mask t side) e = every_only_if Q (nat_lt 0 (words_in plan s p (Mask t side))) _ (λ b. (each.draws t side e (ltb-true 0 (words_in plan s p (Mask t side)) b), tt))
        opens (Mask_product t) e = every_only_if Q (deals_in plan s p (Mask_product t)) _ (λ b. both (Mask_product t) e tt b)
        opens (Masked t side) e = tt
        opens (Kept j) e = tt

    pub every_closing : OfClosing → AllByRecursion Q (closing plan p s k (slot plan s k))
    every_closing each = closes (slot plan s k) refl
      where
        closes : (z : Slot) → slot plan s k ≡ z → AllByRecursion Q (closing plan p s k z)
        closes (Input v) e = tt
        closes (At_gate t) e = every_append Q (only_if (is_direct (session plan s) t) (Sum k ∷ [])) (only_if (is_prepared (session plan s) t) (Join k ∷ []))
            (every_only_if Q (is_direct (session plan s) t) _ (λ b. (each.sums (At_gate t) e b, tt)))
            (every_only_if Q (is_prepared (session plan s) t) _ (λ b. (each.joins t e b, tt)))
        closes (Output o) e = every_only_if Q (opens_to plan s p (Output o)) _ (λ b. (each.delivers o e, tt))
        closes (Mask t side) e = tt
        closes (Mask_product t) e = (each.sums (Mask_product t) e tt, tt)
        closes (Masked t side) e = (each.opens t side e, tt)
        closes (Kept j) e = tt

    pub every_head : AllByRecursion Q (opening plan p s k (slot plan s k)) → AllByRecursion (λ n. Q (post plan n)) (filter (from plan p) (numbers plan s k)) → AllByRecursion Q (head plan p s k)
    every_head opens sent = every_append Q (opening plan p s k (slot plan s k)) (posts plan p s k) opens (every_map Q (post plan) _ sent)

    pub every_tail : AllByRecursion (λ n. Q (take_of plan n)) (filter (to plan p) (taken plan s k)) → AllByRecursion Q (closing plan p s k (slot plan s k)) → AllByRecursion Q (tail plan p s k)
    every_tail got closes = every_append Q (takes plan p s k) (closing plan p s k (slot plan s k)) (every_map Q (take_of plan) _ got) closes

-- ---- what instructions name, where the plan is within the limits

-- message n is there, of this session, and from a party, and i is its share
pub record NamesMessage (plan : Plan) (s n i : ℕ) : Type 0 where
  pub number : n < length (messages plan)
  pub slot : (message plan n).slot < slots plan s
  pub session : (message plan n).session ≡ s
  pub sender : (message plan n).sender < plan.parties
  pub share : i ≡ (message plan n).share

-- it is taken in this session, in a slot that is there
pub record Gets (plan : Plan) (s n i : ℕ) : Type 0 where
  pub slot : take_slot plan n < slots plan s
  pub taken : IsTakenIn plan s (take_slot plan n) n
  pub share : i ≡ (message plan n).share

module _ (plan : Plan) (sound : IsSound plan) (s p : ℕ) (ls : s < length plan.sessions) where
  pub is_plan : IsPlan plan
  is_plan = plan_is plan sound

  -- slot k is there, and of this kind
  abbrev Is : ℕ → (Slot → Type 0) → Type 0
  Is k P = (k < slots plan s) × P (slot plan s k)

  abbrev Product : Slot → Type 0
  Product = Multiplied (session plan s)

  abbrev Dealing : Slot → Type 0
  Dealing z = deals_in plan s p z ≡ true

  -- who has a pair deals of a product
  pub dealing : (z : Slot) → Product z → has_pair (scheme plan) p ≡ true → Dealing z
  dealing (At_gate t) direct pair = and_from (is_direct (session plan s) t) (has_pair (scheme plan) p) direct pair
  dealing (Mask_product t) is pair = pair
  dealing (Input v) is pair = absurd is
  dealing (Output o) is pair = absurd is
  dealing (Mask t side) is pair = absurd is
  dealing (Masked t side) is pair = absurd is
  dealing (Kept j) is pair = absurd is

  abbrev Linears : Slot → Type 0
  Linears z = (t : ℕ) × (z ≡ At_gate t) × (is_product (gate (session plan s) t).operation ≡ false)

  abbrev Joins : Slot → Type 0
  Joins z = (t : ℕ) × (z ≡ At_gate t) × (is_prepared (session plan s) t ≡ true)

  abbrev pub Fits : Instruction → Type 0
  Fits (Draw k) = Is k IsMask
  Fits (Deal k d) = Is k Dealing
  Fits (Own k) = Is k Product
  Fits (Linear k) = Is k Linears
  Fits (Sum k) = Is k Product
  Fits (Open k) = Is k IsMasked
  Fits (Join k) = Is k Joins
  Fits (Deliver k) = Is k IsOutput
  Fits (Post n i) = NamesMessage plan s n i × ((message plan n).sender ≡ p)
  Fits (Take n i) = Gets plan s n i
  Fits End = ⊥

  -- the messages of a slot
  pub in_slot : (k : ℕ) → k < slots plan s → AllByRecursion (λ n. (n < length (messages plan)) × Of plan s k (message plan n)) (numbers plan s k)
  in_slot k lk = each plan is_plan s k ls (sound.sessions s ls).owned lk

  -- and those that are taken there
  pub taken_in_slot : (k : ℕ) → k < slots plan s → AllByRecursion (IsTakenIn plan s k) (taken plan s k)
  taken_in_slot k lk = all_taken plan is_plan (givers plan sound) s k ls lk

  named : (k n : ℕ) → k < slots plan s → (n < length (messages plan)) × Of plan s k (message plan n) → NamesMessage plan s n (message plan n).share
  named k n lk f = record { number = f.0; slot = (let a = f.1.0 in omega arith); session = f.1.2; sender = f.1.1; share = refl }

  got_here : (k n : ℕ) → k < slots plan s → IsTakenIn plan s k n → Gets plan s n (message plan n).share
  got_here k n lk it =
      let here : take_slot plan n ≡ k = ap (λ (at : ℕ × ℕ). at.1) it.to in
      record { slot = omega (arith, here, lk); taken = subst (λ j. IsTakenIn plan s j n) (sym here) it; share = refl }

  heads_fit : (k : ℕ) → k < slots plan s → AllByRecursion Fits (head plan p s k)
  heads_fit k lk = every_head plan s p Fits k
      (every_opening plan s p Fits k (record {
        draws = λ t side e some. (lk, subst IsMask (sym e) tt);
        inputs = λ v e b. (lk, subst Dealing (sym e) b);
        products = λ z e is b. ((lk, subst Product (sym e) is), (lk, subst Dealing (sym e) (dealing z is b)));
        linears = λ t e b. (lk, (t, e, b));
      }))
      (every_filter _ _ (from plan p) (numbers plan s k) (in_slot k lk) (λ n f e. (named k n lk f, eqb-true _ _ e)))

  tails_fit : (k : ℕ) → k < slots plan s → AllByRecursion Fits (tail plan p s k)
  tails_fit k lk = every_tail plan s p Fits k
      (every_filter _ _ (to plan p) (taken plan s k) (taken_in_slot k lk) (λ n f e. got_here k n lk f))
      (every_closing plan s p Fits k (record {
        sums = λ z e is. (lk, subst Product (sym e) is);
        opens = λ t side e. (lk, subst IsMasked (sym e) tt);
        joins = λ t e b. (lk, (t, e, b));
        delivers = λ o e. (lk, subst IsOutput (sym e) tt);
      }))

  pub all_fit : AllByRecursion Fits (program plan p s)
  all_fit = all_parts plan s p Fits heads_fit tails_fit

  pub slots_fit : AllByRecursion Fits (joined (slots plan s) (slot_program plan p s))
  slots_fit = slot_parts plan s p Fits heads_fit tails_fit

  pub fits : (q : ℕ) (e : Instruction) → at (program plan p s) q ≡ e → e ≢ End → Fits e
  fits q e is ne = subst Fits is (at_within Fits (program plan p s) q (is_within (program plan p s) q (λ end. ne (sym is ∙ end))) all_fit)
