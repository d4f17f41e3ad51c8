-- What wires an instruction sets and reads.
use Rattle.std.proofs.Common.{◌≡◌, ◌≢◌, ◌⊎◌, ℕ, ◌+◌, ◌*◌, ◌<◌, ◌≤◌, true, false, nat_eq, List, [], ◌∷◌, length, refl, sym, ap, ◌∙◌, subst, arith}
use Rattle.std.specs.List.{list_any}
use Rattle.std.proofs.lemmas.Bool.{and_parts, both_ways, eq-eqb, false≢true}
use mathlib.Core.Logic.{inl, inr}
use Rattle.circuit_model.specs.Circuits.{is_product}
use Rattle.secret_sharing.specs.Schemes.{has_pair}
use Rattle.session_slots.specs.Sessions.{Session, Slot, given_by, gate, is_direct, is_prepared, kept_wire, operand, output_wire, mask_wire, product_wire, product_in}
use Rattle.session_slots.specs.Sessions.Slot.{Input, At_gate, Output, Mask, Mask_product, Masked, Kept}
use Rattle.session_slots.specs.KeptWires.{is_read, slot_sets, slot_reads, sets_in, reads_in}
use Rattle.session_slots.specs.EarlyWires.{completes, slot_completes, is_join}
use Rattle.session_slots.proofs.KeptRows.{sets_one}
use Rattle.plan_model.specs.Plans.{Plan, IsPlan, scheme, session, slot, slots, is_holder, holder_of, deals_in}
use Rattle.plan_model.specs.declared.key.Key.{Key}
use Rattle.plan_model.specs.Numbers.{message}
use Rattle.plan_model.specs.Sound.{IsSound}
use Rattle.plan_model.proofs.PlanSchemes.{least_holds}
use Rattle.program_model.specs.declared.instruction.Instruction.{Instruction}
use Rattle.program_model.specs.declared.instruction.Instruction.TheVariants.{Draw, Deal, Post, Take, Linear, Own, Sum, Open, Join, Deliver, End}
use Rattle.program_model.specs.Programs.{program, at}
use Rattle.program_model.specs.Proper.{IsMasked, IsOutput}
use Rattle.program_model.specs.States.{slot_of}
use Rattle.program_laws.specs.WordsRead.{gate_at, Deals, TakesInto, Carries, SetsSummand, ReadsSummand}
use Rattle.program_laws.proofs.FreeSlots.{completes_sets, joined_completes, product_completes, direct_unprepared, no_product}
use Rattle.program_laws.proofs.ProgramParts.{Multiplied, Fits, NamesMessage, dealing, fits, is_plan}
use Rattle.program_laws.proofs.SentMessages.{going}
use Rattle.program_laws.proofs.Ranks.{named, part_at, step_at, past}
use Rattle.share_world.proofs.GoingMessages.{Goes}
use Rattle.share_world.proofs.Settled.{is_one, is_first, is_second}

-- ---- slots in which something is dealt or taken

module _ (x : Session) where
  -- what is dealt in a slot is of the wire that it sets
  pub deal_sets : (z : Slot) (v : ℕ) → Deals x z v → list_any (nat_eq v) (sets_in x z) ≡ true
  deal_sets (Input u) v e = is_one u v e
  deal_sets (At_gate t) v e = is_one (gate x t).output v e
  deal_sets (Mask_product t) v e = is_one (product_wire x t) v e
  deal_sets (Output o) v e = absurd e
  deal_sets (Mask t side) v e = absurd e
  deal_sets (Masked t side) v e = absurd e
  deal_sets (Kept j) v e = absurd e

  -- and so is what is taken there, by which the wire is complete, and of which the slot reads nothing
  pub record TakesThere (z : Slot) (v : ℕ) : Type 0 where
    pub complete : list_any (nat_eq v) (completes x z) ≡ true
    pub reads : (u : ℕ) → list_any (nat_eq u) (reads_in x z) ≡ false
    pub joins : is_join x z ≡ false

  pub takes_there : (z : Slot) (v : ℕ) → TakesInto x z v → TakesThere z v
  takes_there (Input u) v e = record { complete = is_one u v e; reads = λ u. refl; joins = refl }
  takes_there (Mask t side) v e = record { complete = is_one (mask_wire x t side) v e; reads = λ u. refl; joins = refl }
  takes_there (At_gate t) v e = absurd e
  takes_there (Output o) v e = absurd e
  takes_there (Mask_product t) v e = absurd e
  takes_there (Masked t side) v e = absurd e
  takes_there (Kept j) v e = absurd e

  -- the wire of a product that is dealt is that of the deal
  deals_output : (z : Slot) (v : ℕ) → Multiplied x z → v ≡ (product_in x z).output → Deals x z v
  deals_output (At_gate t) v is e = e
  deals_output (Mask_product t) v is e = e
  deals_output (Input u) v is e = absurd is
  deals_output (Output o) v is e = absurd is
  deals_output (Mask t side) v is e = absurd is
  deals_output (Masked t side) v is e = absurd is
  deals_output (Kept j) v is e = absurd is

  -- no such product is joined
  multiplied_apart : (z : Slot) → Multiplied x z → is_join x z ≡ false
  multiplied_apart (At_gate t) direct = direct_unprepared x.prepared (is_product (gate x t).operation) direct
  multiplied_apart (Mask_product t) is = refl
  multiplied_apart (Input u) is = absurd is
  multiplied_apart (Output o) is = absurd is
  multiplied_apart (Mask t side) is = absurd is
  multiplied_apart (Masked t side) is = absurd is
  multiplied_apart (Kept j) is = absurd is

  -- a slot that reads in its tail: a product that is joined, or what is opened
  abbrev pub ReadsLate : Slot → Type 0
  ReadsLate (At_gate t) = is_prepared x t ≡ true
  ReadsLate (Output o) = Unit {0}
  ReadsLate (Masked t side) = Unit {0}
  ReadsLate _ = ⊥

  late_output : (z : Slot) → IsOutput z → ReadsLate z
  late_output (Output o) is = tt
  late_output (Input u) is = absurd is
  late_output (At_gate t) is = absurd is
  late_output (Mask t side) is = absurd is
  late_output (Mask_product t) is = absurd is
  late_output (Masked t side) is = absurd is
  late_output (Kept j) is = absurd is

  late_masked : (z : Slot) → IsMasked z → ReadsLate z
  late_masked (Masked t side) is = tt
  late_masked (Input u) is = absurd is
  late_masked (At_gate t) is = absurd is
  late_masked (Output o) is = absurd is
  late_masked (Mask t side) is = absurd is
  late_masked (Mask_product t) is = absurd is
  late_masked (Kept j) is = absurd is

-- ---- who sends a message of a slot deals there, draws the summand of a mask, or holds what is opened or kept

abbrev Sends : Plan → ℕ → ℕ → Slot → ℕ → Type 0
Sends plan s p (Output o) i = is_holder plan p i ≡ true
Sends plan s p (Masked t side) i = is_holder plan p i ≡ true
Sends plan s p (Mask t side) i = holder_of plan i ≡ p
Sends plan s p (Kept j) i = is_holder plan p i ≡ true
Sends plan s p z i = deals_in plan s p z ≡ true

module _ (plan : Plan) (h : IsPlan plan) (s : ℕ) where
  least_of : (i q : ℕ) → i < length plan.groups → holder_of plan i ≡ q → is_holder plan q i ≡ true
  least_of i q li least = subst (λ r. is_holder plan r i ≡ true) least (least_holds plan h i li)

  goes_sends : (z : Slot) (i q p : ℕ) → i < length plan.groups → Goes plan s z i q p → Sends plan s q z i
  goes_sends (Input v) i q p li goes = ap (given_by q) goes.0 ∙ eq-eqb q q refl
  goes_sends (At_gate t) i q p li goes = goes.1
  goes_sends (Output o) i q p li goes = least_of i q li goes.1.0
  goes_sends (Mask t side) i q p li goes = goes.0
  goes_sends (Mask_product t) i q p li goes = goes.1
  goes_sends (Masked t side) i q p li goes = least_of i q li goes.0
  goes_sends (Kept j) i q p li goes = subst (λ r. is_holder plan r i ≡ true) (sym goes.1) goes.2

module _ (plan : Plan) (sound : IsSound plan) (s p : ℕ) (ls : s < length plan.sessions) (lp : p < plan.parties) where
  abbrev x : Session
  x = session plan s

  abbrev es : List Instruction
  es = program plan p s

  fit : (q : ℕ) (e : Instruction) → at es q ≡ e → e ≢ End → Fits plan sound s p ls e
  fit = fits plan sound s p ls

  -- own products stand at products
  pub own_at : (q k : ℕ) → at es q ≡ Own k → Multiplied x (slot plan s k)
  own_at q k is = (fit q (Own k) is (λ e. cc)).1

  sends_own : (n i : ℕ) → NamesMessage plan s n i → (message plan n).sender ≡ p → Sends plan s p (slot_of plan n) i
  sends_own n i it by =
      let key : Key = message plan n in
      let here = going plan n it.number in
      let of_key : Sends plan key.session key.sender (slot plan key.session key.slot) key.share = goes_sends plan (is_plan plan sound s p ls) key.session (slot plan key.session key.slot) key.share key.sender key.receiver here.share here.goes in
      subst (Sends plan s p (slot plan key.session key.slot)) (sym it.share) (subst (λ z. Sends plan z p (slot plan key.session key.slot) key.share) it.session (subst (λ z. Sends plan key.session z (slot plan key.session key.slot) key.share) by of_key))

  -- a message of the session has its slot there
  own_slot : (n i : ℕ) → NamesMessage plan s n i → slot_of plan n ≡ slot plan s (message plan n).slot
  own_slot n i it = ap (λ z. slot plan z (message plan n).slot) it.session

  never : {A : Type 0} (n m : ℕ) → n < m → n ≡ m → A
  never n m l e = absurd (omega arith)

  -- what is not so can't be
  unless : {A : Type 0} (z : Slot) → is_join x z ≡ false → is_join x z ≡ true → A
  unless z unjoined joins = absurd (both_ways (is_join x z) unjoined joins)

  -- ---- the wire that an instruction sets

  -- its slot sets the wire, and where it is of a tail, completes it. No instruction of a slot that reads comes before the
  -- first that reads, and where the slot joins, it is its last
  pub record Sets (e : Instruction) (v : ℕ) : Type 0 where
    pub within : named plan e < slots plan s
    pub sets : slot_sets x (named plan e) v ≡ true
    pub late : part_at e ≡ 1 → slot_completes x (named plan e) v ≡ true
    pub beyond : (u : ℕ) → slot_reads x (named plan e) u ≡ true → 1 ≤ part_at e + step_at e + past e
    pub joins : is_join x (slot plan s (named plan e)) ≡ true → (part_at e ≡ 1) × (2 ≤ step_at e + past e)

  sets_taken : (e : Instruction) (v : ℕ) → named plan e < slots plan s → TakesInto x (slot plan s (named plan e)) v → Sets e v
  sets_taken e v lk h =
      let z : Slot = slot plan s (named plan e) in
      let it = takes_there x z v h in record {
        within = lk;
        sets = completes_sets x z v it.complete;
        late = λ f. it.complete;
        beyond = λ u reads. absurd (both_ways (list_any (nat_eq u) (reads_in x z)) (it.reads u) reads);
        joins = unless z it.joins;
      }

  dealt_apart : (z : Slot) (v : ℕ) → Deals x z v → deals_in plan s p z ≡ true → is_join x z ≡ false
  dealt_apart (Input u) v h e = refl
  dealt_apart (At_gate t) v h e = multiplied_apart x (At_gate t) (and_parts (is_direct x t) (has_pair (scheme plan) p) e).0
  dealt_apart (Mask_product t) v h e = refl
  dealt_apart (Output o) v h e = absurd h
  dealt_apart (Mask t side) v h e = absurd h
  dealt_apart (Masked t side) v h e = absurd h
  dealt_apart (Kept j) v h e = absurd h

  -- a product that is dealt is complete by its sum
  summed_there : (k v : ℕ) → Multiplied x (slot plan s k) → v ≡ (gate_at plan s k).output → slot_completes x k v ≡ true
  summed_there k v is e = subst (λ u. slot_completes x k u ≡ true) (sym e) (product_completes x (slot plan s k) is)

  pub gate_sets : (k t v : ℕ) → slot plan s k ≡ At_gate t → v ≡ (gate_at plan s k).output → slot_sets x k v ≡ true
  gate_sets k t v here e = ap (λ z. list_any (nat_eq v) (sets_in x z)) here ∙ is_one (gate x t).output v (e ∙ ap (λ z. (product_in x z).output) here)

  pub joined_there : (k t v : ℕ) → slot plan s k ≡ At_gate t → is_prepared x t ≡ true → v ≡ (gate_at plan s k).output → slot_completes x k v ≡ true
  joined_there k t v here prepared e =
      let out : v ≡ (gate x t).output = e ∙ ap (λ z. (product_in x z).output) here in
      ap (λ z. list_any (nat_eq v) (completes x z)) here ∙ subst (λ u. list_any (nat_eq u) (completes x (At_gate t)) ≡ true) (sym out) (joined_completes x t prepared)

  pub sets_of : (q : ℕ) (e : Instruction) → at es q ≡ e → (v i : ℕ) → SetsSummand plan p s e v i → Sets e v
  sets_of q (Draw k) is v i h = sets_taken (Draw k) v (fit q (Draw k) is (λ e. cc)).0 h.0
  sets_of q (Deal k d) is v i h =
      let it = fit q (Deal k d) is (λ e. cc) in record {
        within = it.0;
        sets = deal_sets x (slot plan s k) v h;
        late = never 0 1 (omega arith);
        beyond = λ u r. omega arith;
        joins = unless (slot plan s k) (dealt_apart (slot plan s k) v h it.1);
      }
  sets_of q (Take n j) is v i h = let it = fit q (Take n j) is (λ e. cc) in sets_taken (Take n j) v it.slot (subst (λ z. TakesInto x z v) it.taken.same h.0)
  sets_of q (Linear k) is v i h =
      let it = fit q (Linear k) is (λ e. cc) in
      let t : ℕ = it.1.0 in record {
        within = it.0;
        sets = gate_sets k t v it.1.1 h;
        late = never 0 1 (omega arith);
        beyond = λ u r. omega arith;
        joins = λ e. absurd (both_ways (is_prepared x t) (no_product x.prepared (is_product (gate x t).operation) it.1.2) (sym (ap (is_join x) it.1.1) ∙ e));
      }
  sets_of q (Sum k) is v i h =
      let it = fit q (Sum k) is (λ e. cc) in
      let complete : slot_completes x k v ≡ true = summed_there k v it.1 h in record {
        within = it.0;
        sets = completes_sets x (slot plan s k) v complete;
        late = λ e. complete;
        beyond = λ u r. omega arith;
        joins = unless (slot plan s k) (multiplied_apart x (slot plan s k) it.1);
      }
  sets_of q (Join k) is v i h =
      let it = fit q (Join k) is (λ e. cc) in record {
        within = it.0;
        sets = gate_sets k it.1.0 v it.1.1 h;
        late = λ e. joined_there k it.1.0 v it.1.1 it.1.2 h;
        beyond = λ u r. omega arith;
        joins = λ e. (refl, omega arith);
      }
  sets_of q (Own k) is v i h = absurd h
  sets_of q (Post n j) is v i h = absurd h
  sets_of q (Open k) is v i h = absurd h
  sets_of q (Deliver k) is v i h = absurd h
  sets_of q End is v i h = absurd h

  pub all_sets : (q v i : ℕ) → SetsSummand plan p s (at es q) v i → Sets (at es q) v
  all_sets q v i h = sets_of q (at es q) refl v i h

  pub sets_at : (q v i : ℕ) → SetsSummand plan p s (at es q) v i → (named plan (at es q) < slots plan s) × (slot_sets x (named plan (at es q)) v ≡ true)
  sets_at q v i h = let it = all_sets q v i h in (it.within, it.sets)

  -- no instruction sets two wires
  pub one_wire : (q v w i j : ℕ) → SetsSummand plan p s (at es q) v i → SetsSummand plan p s (at es q) w j → v ≡ w
  one_wire q v w i j a b = sets_one x (named plan (at es q)) v w (sets_at q v i a).1 (sets_at q w j b).1

  -- ---- the wire that an instruction reads

  -- its slot reads the wire, of which p holds the summand. In a head it is the first instruction of its slot, where that
  -- sets a wire; in a tail the slot is one that reads there, as each does that joins
  pub record ReadsThere (e : Instruction) (v i : ℕ) : Type 0 where
    pub reads : slot_reads x (named plan e) v ≡ true
    pub held : is_holder plan p i ≡ true
    pub first : part_at e ≡ 0 → (u : ℕ) → slot_sets x (named plan e) u ≡ true → step_at e ≡ 0
    pub tail : part_at e ≡ 1 → ReadsLate x (slot plan s (named plan e))
    pub joins : is_join x (slot plan s (named plan e)) ≡ true → part_at e ≡ 1

  -- p sets the summand in the head of the slot: it draws it, or deals the wire
  abbrev pub OwnIn : Slot → ℕ → ℕ → Type 0
  OwnIn (Mask t side) v i = (v ≡ mask_wire x t side) × (holder_of plan i ≡ p)
  OwnIn z v i = (deals_in plan s p z ≡ true) × Deals x z v

  pub own_sets : (z : Slot) (v i : ℕ) → OwnIn z v i → list_any (nat_eq v) (sets_in x z) ≡ true
  own_sets (Mask t side) v i h = is_one (mask_wire x t side) v h.0
  own_sets (Input u) v i h = deal_sets x (Input u) v h.1
  own_sets (At_gate t) v i h = deal_sets x (At_gate t) v h.1
  own_sets (Output o) v i h = absurd h.1
  own_sets (Mask_product t) v i h = deal_sets x (Mask_product t) v h.1
  own_sets (Masked t side) v i h = absurd h.1
  own_sets (Kept j) v i h = absurd h.1

  -- it comes after what p sets of the wire in the head of that slot: a post of that, or the sum of a product that is read
  pub record ReadsOwn (e : Instruction) (v i : ℕ) : Type 0 where
    pub own : OwnIn (slot plan s (named plan e)) v i
    pub after : 2 ≤ 2 * part_at e + step_at e
    pub sum : part_at e ≡ 1 → (is_read x v ≡ true) × (slot_completes x (named plan e) v ≡ true) × (is_holder plan p i ≡ true)

  abbrev pub Reading : Instruction → ℕ → ℕ → Type 0
  Reading e v i = (named plan e < slots plan s) × (ReadsThere e v i ⊎ ReadsOwn e v i)

  posts_own : (n j v i : ℕ) (z : Slot) → slot plan s (message plan n).slot ≡ z → OwnIn z v i → ReadsOwn (Post n j) v i
  posts_own n j v i z e own = record { own = subst (λ y. OwnIn y v i) (sym e) own; after = omega arith; sum = never 0 1 (omega arith) }

  -- a post of what is opened
  posts_open : (n j v i : ℕ) (z : Slot) → slot plan s (message plan n).slot ≡ z → sets_in x z ≡ [] → is_join x z ≡ false → list_any (nat_eq v) (reads_in x z) ≡ true → is_holder plan p i ≡ true → ReadsThere (Post n j) v i
  posts_open n j v i z e none unjoined reads held = record {
    reads = ap (λ y. list_any (nat_eq v) (reads_in x y)) e ∙ reads;
    held = held;
    first = λ f u sets. absurd (false≢true (sym (ap (λ y. list_any (nat_eq u) (sets_in x y)) e ∙ ap (list_any (nat_eq u)) none) ∙ sets));
    tail = never 0 1 (omega arith);
    joins = λ joins. unless z unjoined (sym (ap (is_join x) e) ∙ joins);
  }

  post_reads : (n j v i : ℕ) (z : Slot) → slot plan s (message plan n).slot ≡ z → Carries x z v → i ≡ j → Sends plan s p z j → ReadsThere (Post n j) v i ⊎ ReadsOwn (Post n j) v i
  post_reads n j v i (Input u) e c same by = inr (posts_own n j v i (Input u) e (by, c))
  post_reads n j v i (At_gate t) e c same by = inr (posts_own n j v i (At_gate t) e (by, c))
  post_reads n j v i (Mask_product t) e c same by = inr (posts_own n j v i (Mask_product t) e (by, c))
  post_reads n j v i (Mask t side) e c same by = inr (posts_own n j v i (Mask t side) e (c, ap (holder_of plan) same ∙ by))
  post_reads n j v i (Output o) e c same by = inl (posts_open n j v i (Output o) e refl refl (is_one (output_wire x o) v c) (ap (is_holder plan p) same ∙ by))
  post_reads n j v i (Kept u) e c same by = inl (posts_open n j v i (Kept u) e refl refl (is_one (kept_wire x u) v c) (ap (is_holder plan p) same ∙ by))
  post_reads n j v i (Masked t side) e c same by =
      let a : ℕ = operand (gate x t) side in
      let b : ℕ = mask_wire x t side in
      let reads : list_any (nat_eq v) (a ∷ b ∷ []) ≡ true = elim c [
        | inl one ↦ subst (λ u. list_any (nat_eq u) (a ∷ b ∷ []) ≡ true) (sym one) (is_first a b)
        | inr two ↦ subst (λ u. list_any (nat_eq u) (a ∷ b ∷ []) ≡ true) (sym two) (is_second a b)
      ] in
      inl (posts_open n j v i (Masked t side) e refl refl reads (ap (is_holder plan p) same ∙ by))

  -- the first of a slot that computes in its head
  reads_first : (e : Instruction) (v i : ℕ) → part_at e ≡ 0 → step_at e ≡ 0 → is_join x (slot plan s (named plan e)) ≡ false → slot_reads x (named plan e) v ≡ true → is_holder plan p i ≡ true → ReadsThere e v i
  reads_first e v i head none unjoined reads held = record { reads = reads; held = held; first = λ f u sets. none; tail = λ f. never 0 1 (omega arith) (sym head ∙ f); joins = unless (slot plan s (named plan e)) unjoined }

  -- what reads in its tail
  reads_last : (e : Instruction) (v i : ℕ) → part_at e ≡ 1 → ReadsLate x (slot plan s (named plan e)) → slot_reads x (named plan e) v ≡ true → is_holder plan p i ≡ true → ReadsThere e v i
  reads_last e v i tail late reads held = record { reads = reads; held = held; first = λ f. never 0 1 (omega arith) (sym f ∙ tail); tail = λ f. late; joins = λ f. tail }

  reads_of : (q : ℕ) (e : Instruction) → at es q ≡ e → (v i : ℕ) → ReadsSummand plan p s e v i → Reading e v i
  reads_of q (Post n j) is v i h = let it = fit q (Post n j) is (λ e. cc) in (it.0.slot, post_reads n j v i (slot_of plan n) (sym (own_slot n j it.0)) h.0 h.1 (sends_own n j it.0 it.1))
  reads_of q (Linear k) is v i h =
      let it = fit q (Linear k) is (λ e. cc) in
      let t : ℕ = it.1.0 in
      let unjoined : is_join x (slot plan s k) ≡ false = ap (is_join x) it.1.1 ∙ no_product x.prepared (is_product (gate x t).operation) it.1.2 in
      (it.0, inl (reads_first (Linear k) v i refl refl unjoined h.0 h.1))
  reads_of q (Own k) is v i h = let it = fit q (Own k) is (λ e. cc) in (it.0, inl (reads_first (Own k) v i refl refl (multiplied_apart x (slot plan s k) it.1) h.0 h.1))
  reads_of q (Sum k) is v i h =
      let it = fit q (Sum k) is (λ e. cc) in
      let z : Slot = slot plan s k in (
        it.0,
        inr (record {
          own = own_product z it.1 (dealing plan sound s p ls z it.1 h.1) (deals_output x z v it.1 h.0);
          after = omega arith;
          sum = λ f. (h.2, summed_there k v it.1 h.0, h.3);
        }),
      )
    where
      own_product : (z : Slot) → Multiplied x z → deals_in plan s p z ≡ true → Deals x z v → OwnIn z v i
      own_product (At_gate t) is e d = (e, d)
      own_product (Mask_product t) is e d = (e, d)
      own_product (Input u) is e d = absurd is
      own_product (Output o) is e d = absurd is
      own_product (Mask t side) is e d = absurd is
      own_product (Masked t side) is e d = absurd is
      own_product (Kept j) is e d = absurd is
  reads_of q (Open k) is v i h = let it = fit q (Open k) is (λ e. cc) in (it.0, inl (reads_last (Open k) v i refl (late_masked x (slot plan s k) it.1) h.0 h.1))
  reads_of q (Join k) is v i h = let it = fit q (Join k) is (λ e. cc) in (it.0, inl (reads_last (Join k) v i refl (subst (ReadsLate x) (sym it.1.1) it.1.2) h.0 h.1))
  reads_of q (Deliver k) is v i h = let it = fit q (Deliver k) is (λ e. cc) in (it.0, inl (reads_last (Deliver k) v i refl (late_output x (slot plan s k) it.1) h.0 h.1))
  reads_of q (Draw k) is v i h = absurd h
  reads_of q (Deal k d) is v i h = absurd h
  reads_of q (Take n j) is v i h = absurd h
  reads_of q End is v i h = absurd h

  pub reads_at : (q v i : ℕ) → ReadsSummand plan p s (at es q) v i → Reading (at es q) v i
  reads_at q v i h = reads_of q (at es q) refl v i h
