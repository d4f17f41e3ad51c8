-- What an instruction reads was set before, and what is still to be read stands in a row of its own.
use Rattle.std.proofs.Common.{◌≡◌, ◌≢◌, ◌⊎◌, ℕ, suc, ◌+◌, ◌-◌, ◌<◌, ◌≤◌, Bool, true, false, not, ◌&&◌, nat_eq, nat_lt, List, [], ◌∷◌, map, length, refl, sym, ap, ◌∙◌, subst, arith}
use Rattle.std.specs.Prelude.{slice_index, if◌then◌else◌}
use Rattle.std.specs.List.{AllByRecursion, list_any, filter}
use Rattle.std.proofs.lemmas.Bool.{cases_Bool, cases_eq, cases_lt, both_ways, false≢true, cond-true, eq-eqb, lt-ltb, and_parts, and_from, or_parts, not_from_false}
use Rattle.std.proofs.lemmas.List.{get_or_past}
use mathlib.Core.Logic.{inl, inr}
use Rattle.list_laws.specs.Lists.{only_if}
use Rattle.list_laws.proofs.JoinedLists.{total_within}
use Rattle.circuit_model.specs.Circuits.{is_product}
use Rattle.secret_sharing.specs.Schemes.{has_pair}
use Rattle.session_slots.specs.declared.source.Source.{Source}
use Rattle.session_slots.specs.declared.source.Source.TheVariants.{Given, Earlier}
use Rattle.session_slots.specs.Sessions.{Session, Slot, given_by, readers, source, gate, is_direct, is_prepared, mask_wire, product_wire, product_in, session_slots}
use Rattle.session_slots.specs.Sessions.Slot.{Input, At_gate, Output, Mask, Mask_product, Masked, Kept}
use Rattle.session_slots.specs.declared.side.Side.{Side}
use Rattle.session_slots.specs.declared.side.Side.TheVariants.{First, Second}
use Rattle.session_slots.specs.KeptWires.{IsInOrder, IsRowTable, is_read, slot_sets, slot_reads, sets_in}
use Rattle.session_slots.specs.SlotNumbers.{first_of_gate, session_slot_number, SlotsAreNumbered}
use Rattle.session_slots.specs.SoundSessions.{Inside}
use Rattle.session_slots.proofs.KeptRows.{some_found, some_at, sets_one}
use Rattle.session_slots.proofs.SessionSlots.{slots_are_numbered}
use Rattle.plan_model.specs.Plans.{Plan, scheme, session, slot, slots, is_holder, holder_of, least_held, words_in, deals_in}
use Rattle.plan_model.specs.Firsts.{numbers}
use Rattle.plan_model.specs.Messages.{slot_messages, input_messages}
use Rattle.plan_model.specs.Numbers.{message, deals_before}
use Rattle.plan_model.specs.Sound.{IsSound}
use Rattle.plan_model.proofs.SlotMessages.{keys_are, every_filter}
use Rattle.job_session.specs.Batches.{batch}
use Rattle.session_slots.specs.EarlyWires.{completes, slot_completes, is_join, sets_early, reads_early}
use Rattle.program_model.specs.declared.instruction.Instruction.{Instruction}
use Rattle.program_model.specs.declared.instruction.Instruction.TheVariants.{Draw, Deal, Post, Take, Linear, Own, Sum, Open, Join, Deliver, End}
use Rattle.program_model.specs.Programs.{program, at, to, take_of, input_taken, opening, closing, posts, taken, taken_in, takes}
use Rattle.program_laws.specs.WordsRead.{gate_at, Deals, TakesInto, SetsSummand, ReadsSummand, IsSet, IsToRead}
use Rattle.job_session.proofs.BatchOrder.{batch_within, no_wait, rising}
use Rattle.program_laws.proofs.CarriedSlots.{carried_has}
use Rattle.program_laws.proofs.ContainedInstructions.{Contains, contains_left, contains_right}
use Rattle.program_laws.proofs.FreeSlots.{none_passes, early_reads, product_completes}
use Rattle.program_laws.proofs.ProgramParts.{Multiplied, fits, is_plan, taken_in_slot, head_in, tail_in}
use Rattle.program_laws.proofs.Ranks.{part_at, step_at, past, rank, ranks_rise, few}
use Rattle.program_laws.proofs.SlotTakes.{Has}
use Rattle.program_laws.proofs.SlotTallies.{Any, any_number, deal_any, row_any}
use Rattle.program_laws.proofs.TakenMessages.{IsTakenIn}
use Rattle.program_laws.proofs.TouchedWires.{Sets, ReadsLate, ReadsThere, ReadsOwn, OwnIn, Reading, all_sets, sets_of, reads_at, own_sets, joined_there}
use Rattle.share_world.proofs.Settled.{is_one, of_one}
pub use Rattle.program_laws.proofs.Ranks.{named}
pub use Rattle.program_laws.proofs.TouchedWires.{own_at, sets_at, one_wire}

part_or : (e : Instruction) → (part_at e ≡ 0) ⊎ (part_at e ≡ 1)
part_or (Draw k) = inl refl
part_or (Deal k d) = inl refl
part_or (Own k) = inl refl
part_or (Post n i) = inl refl
part_or (Linear k) = inl refl
part_or (Take n i) = inr refl
part_or (Sum k) = inr refl
part_or (Open k) = inr refl
part_or (Join k) = inr refl
part_or (Deliver k) = inr refl
part_or End = inl refl

step_few : (e : Instruction) → part_at e + step_at e ≤ 2
step_few (Draw k) = omega arith
step_few (Deal k d) = omega arith
step_few (Own k) = omega arith
step_few (Post n i) = omega arith
step_few (Linear k) = omega arith
step_few (Take n i) = omega arith
step_few (Sum k) = omega arith
step_few (Open k) = omega arith
step_few (Join k) = omega arith
step_few (Deliver k) = omega arith
step_few End = omega arith

-- the instruction completes a gate's wire
abbrev pub Finishes : Instruction → Type 0
Finishes (Linear k) = Unit {0}
Finishes (Sum k) = Unit {0}
Finishes (Join k) = Unit {0}
Finishes _ = ⊥

some_wire : (w : ℕ) (ws : List ℕ) → list_any (nat_eq w) ws ≡ true → list_any (λ v. true) ws ≡ true
some_wire w [] e = absurd (false≢true e)
some_wire w (v ∷ vs) e = refl

module _ (plan : Plan) (sound : IsSound plan) (s p : ℕ) (ls : s < length plan.sessions) (lp : p < plan.parties) where
  abbrev x : Session
  x = session plan s

  abbrev m : ℕ
  m = length plan.groups

  abbrev es : List Instruction
  es = program plan p s

  abbrev ranks : Instruction → ℕ
  ranks = rank plan sound s p ls

  -- ---- each summand that a party holds of a wire is set in the wire's slot

  -- an instruction of slot j that sets the summand: in the head, or else in the tail of a slot that completes the wire
  pub record Setter (j v i : ℕ) : Type 0 where
    pub instruction : Instruction
    pub stands : Contains es instruction
    pub sets : SetsSummand plan p s instruction v i
    pub named : named plan instruction ≡ j
    pub late : part_at instruction ≡ 1 → slot_completes x j v ≡ true

  only : (b : Bool) (e : Instruction) → b ≡ true → Contains (only_if b (e ∷ [])) e
  only b e is = subst (λ l. Contains l e) (sym (cond-true b (e ∷ []) [] is)) (0, omega arith, refl)

  second : (b : Bool) (e f : Instruction) → b ≡ true → Contains (only_if b (e ∷ f ∷ [])) f
  second b e f is = subst (λ l. Contains l f) (sym (cond-true b (e ∷ f ∷ []) [] is)) (1, omega arith, refl)

  never : {A : Type 0} → ◌≡◌ {A = ℕ} 0 1 → A
  never e = absurd (let f : ◌≡◌ {A = ℕ} 0 1 = e in omega arith)

  opened : (j : ℕ) (e : Instruction) (z : Slot) → j < slots plan s → slot plan s j ≡ z → Contains (opening plan p s j z) e → Contains es e
  opened j e z lj here h = head_in plan s p j e lj (contains_left (opening plan p s j (slot plan s j)) (posts plan p s j) e (subst (λ y. Contains (opening plan p s j y) e) (sym here) h))

  closed : (j : ℕ) (e : Instruction) (z : Slot) → j < slots plan s → slot plan s j ≡ z → Contains (closing plan p s j z) e → Contains es e
  closed j e z lj here h = tail_in plan s p j e lj (contains_right (takes plan p s j) _ e (subst (λ y. Contains (closing plan p s j y) e) (sym here) h))

  -- who deals in a slot has the deal there
  deal_there : (j v : ℕ) (z : Slot) → j < slots plan s → slot plan s j ≡ z → deals_in plan s p z ≡ true → Deals x z v → Contains es (Deal j (deals_before plan p s j))
  deal_there j v (Input u) lj here e d = opened j _ (Input u) lj here (only (deals_in plan s p (Input u)) _ e)
  deal_there j v (At_gate t) lj here e d =
      let i : Instruction = Deal j (deals_before plan p s j) in
      opened j i (At_gate t) lj here (contains_left (only_if (deals_in plan s p (At_gate t)) (Own j ∷ i ∷ [])) _ i (second (deals_in plan s p (At_gate t)) (Own j) i e))
  deal_there j v (Mask_product t) lj here e d = opened j _ (Mask_product t) lj here (second (deals_in plan s p (Mask_product t)) (Own j) _ e)
  deal_there j v (Output o) lj here e d = absurd d
  deal_there j v (Mask t side) lj here e d = absurd d
  deal_there j v (Masked t side) lj here e d = absurd d
  deal_there j v (Kept u) lj here e d = absurd d

  -- who is the least holder of a summand draws in the slot of a mask
  draw_there : (j t i : ℕ) (side : Side) → i < m → j < slots plan s → slot plan s j ≡ Mask t side → holder_of plan i ≡ p → Contains es (Draw j)
  draw_there j t i side li lj here e =
      let mine : ℕ → ℕ = λ h. if nat_eq (holder_of plan h) p then 1 else 0 in
      let one : mine i ≡ 1 = cond-true (nat_eq (holder_of plan i) p) 1 0 (eq-eqb (holder_of plan i) p e) in
      let within : least_held plan p i + mine i ≤ least_held plan p m = total_within m i mine li in
      opened j (Draw j) (Mask t side) lj here (only (nat_lt 0 (words_in plan s p (Mask t side))) (Draw j) (lt-ltb 0 (least_held plan p m) (omega arith)))

  has_take : (i j : ℕ) (ns : List ℕ) → AllByRecursion (IsTakenIn plan s j) ns → Has plan i ns → (n : ℕ) × Contains (map (take_of plan) ns) (take_of plan n) × ((message plan n).share ≡ i) × IsTakenIn plan s j n
  has_take i j [] all h = absurd h
  has_take i j (n ∷ ns) all (inl e) = (n, (0, omega arith, refl), e, all.0)
  has_take i j (n ∷ ns) all (inr more) =
      let rest = has_take i j ns all.1 more in
      (rest.0, contains_right (take_of plan n ∷ []) (map (take_of plan) ns) (take_of plan rest.0) rest.1, rest.2, rest.3)

  -- what comes to the party is taken
  takes_it : (v i j : ℕ) (z : Slot) → j < slots plan s → slot plan s j ≡ z → TakesInto x z v → slot_completes x j v ≡ true → Has plan i (filter (to plan p) (taken plan s j)) → Setter j v i
  takes_it v i j z lj here takes_in complete has =
      let one = has_take i j (filter (to plan p) (taken plan s j)) (every_filter _ (IsTakenIn plan s j) (to plan p) (taken plan s j) (taken_in_slot plan sound s p ls j lj) (λ n it e. it)) has in
      record {
        instruction = take_of plan one.0;
        stands = tail_in plan s p j (take_of plan one.0) lj (contains_left (takes plan p s j) _ (take_of plan one.0) one.1);
        sets = (subst (λ y. TakesInto x y v) (sym (one.3.same ∙ here)) takes_in, sym one.2);
        named = ap (λ (at : ℕ × ℕ). at.1) one.3.to;
        late = λ e. complete;
      }

  -- where the messages of the slot are taken in it
  taken_there : (v i j : ℕ) (z : Slot) → j < slots plan s → slot plan s j ≡ z → taken_in plan s j z ≡ numbers plan s j → TakesInto x z v → slot_completes x j v ≡ true → Any p i (slot_messages plan s j z) → Setter j v i
  taken_there v i j z lj here own takes_in complete any =
      takes_it v i j z lj here takes_in complete
      (subst (λ ns. Has plan i (filter (to plan p) ns)) (sym (ap (taken_in plan s j) here ∙ own))
      (any_number plan p i (numbers plan s j) (subst (Any p i) (sym (keys_are plan s j ls lj)) (subst (λ z. Any p i (slot_messages plan s j z)) (sym here) any))))

  -- a product that is dealt is set by its sum
  summed : (v i j : ℕ) (z : Slot) → slot plan s j ≡ z → Multiplied x z → v ≡ (product_in x z).output → Contains es (Sum j) → Setter j v i
  summed v i j z here is same stands =
      record {
        instruction = Sum j;
        stands = stands;
        sets = same ∙ ap (λ z. (product_in x z).output) (sym here);
        named = refl;
        late = λ e. ap (λ z. list_any (nat_eq v) (completes x z)) here ∙ subst (λ u. list_any (nat_eq u) (completes x z) ≡ true) (sym same) (product_completes x z is);
      }

  gate_setter : (v i j t : ℕ) → j < slots plan s → slot plan s j ≡ At_gate t → v ≡ (gate x t).output → Setter j v i
  gate_setter v i j t lj here same =
      let out : v ≡ (gate_at plan s j).output = same ∙ ap (λ z. (product_in x z).output) (sym here) in
      let sums : List Instruction = only_if (is_direct x t) (Sum j ∷ []) in
      elim (cases_Bool (is_direct x t)) [
        | inl direct ↦ summed v i j (At_gate t) here direct same (closed j (Sum j) (At_gate t) lj here (contains_left sums _ (Sum j) (only (is_direct x t) (Sum j) direct)))
        | inr undealt ↦ elim (cases_Bool (is_prepared x t)) [
          | inl prepared ↦ record {
            instruction = Join j;
            stands = closed j (Join j) (At_gate t) lj here (contains_right sums _ (Join j) (only (is_prepared x t) (Join j) prepared));
            sets = out;
            named = refl;
            late = λ e. joined_there plan sound s p ls lp j t v here prepared out;
          }
          | inr unprepared ↦
              let linear : is_product (gate x t).operation ≡ false = neither x.prepared (is_product (gate x t).operation) undealt unprepared in
              record {
                instruction = Linear j;
                stands = opened j (Linear j) (At_gate t) lj here (contains_right (only_if (deals_in plan s p (At_gate t)) _) (only_if (not (is_product (gate x t).operation)) (Linear j ∷ [])) (Linear j)
                    (only (not (is_product (gate x t).operation)) (Linear j) (not_from_false (is_product (gate x t).operation) linear)));
                sets = out;
                named = refl;
                late = λ e. never e;
              }
        ]
      ]
    where
      neither : (prepared product : Bool) → (not prepared && product) ≡ false → (prepared && product) ≡ false → product ≡ false
      neither true product a b = b
      neither false product a b = a

  input_setter : (v i j u : ℕ) (from : Source) → i < m → is_holder plan p i ≡ true → j < slots plan s → slot plan s j ≡ Input u → source x u ≡ from → v ≡ u → Setter j v i
  input_setter v i j u (Given o) li has lj here is same = elim (cases_eq o p) [
    | inl own ↦ record {
      instruction = Deal j (deals_before plan p s j);
      stands = deal_there j v (Input u) lj here (ap (given_by p) is ∙ eq-eqb o p own) same;
      sets = subst (λ y. Deals x y v) (sym here) same;
      named = refl;
      late = λ e. never e;
    }
    | inr other ↦ taken_there v i j (Input u) lj here (ap (input_taken plan s j u) is) same (ap (λ z. list_any (nat_eq v) (completes x z)) here ∙ is_one u v same)
        (subst (Any p i) (sym (ap (input_messages plan s j) is)) (deal_any plan s j o p i lp li (λ z. other (sym z)) has))
  ]
  input_setter v i j u (Earlier r c n) li has lj here is same =
      takes_it v i j (Input u) lj here same (ap (λ z. list_any (nat_eq v) (completes x z)) here ∙ is_one u v same) (carried_has plan (is_plan plan sound s p ls) s u r c n j is here p i lp li has)

  setter : (v i : ℕ) → i < m → is_holder plan p i ≡ true → (j : ℕ) (z : Slot) → j < slots plan s → slot plan s j ≡ z → list_any (nat_eq v) (sets_in x z) ≡ true → Setter j v i
  setter v i li has j (Input u) lj here h = input_setter v i j u (source x u) li has lj here refl (of_one u v h)
  setter v i li has j (Mask t side) lj here h =
      let mask : ℕ = mask_wire x t side in
      let same : v ≡ mask = of_one mask v h in
      elim (cases_eq (holder_of plan i) p) [
        | inl own ↦ record {
          instruction = Draw j;
          stands = draw_there j t i side li lj here own;
          sets = (subst (λ y. TakesInto x y v) (sym here) same, own);
          named = refl;
          late = λ e. never e;
        }
        | inr other ↦ taken_there v i j (Mask t side) lj here refl same (ap (λ z. list_any (nat_eq v) (completes x z)) here ∙ is_one mask v same) (row_any plan s j (holder_of plan) p i lp li (λ z. other (sym z)) has)
      ]
  setter v i li has j (At_gate t) lj here h = gate_setter v i j t lj here (of_one (gate x t).output v h)
  setter v i li has j (Mask_product t) lj here h = summed v i j (Mask_product t) here tt (of_one (product_wire x t) v h) (closed j (Sum j) (Mask_product t) lj here (0, omega arith, refl))
  setter v i li has j (Output o) lj here h = absurd (false≢true h)
  setter v i li has j (Masked t side) lj here h = absurd (false≢true h)
  setter v i li has j (Kept u) lj here h = absurd (false≢true h)

  -- ---- what comes before

  reads_inside : (q v i : ℕ) → ReadsSummand plan p s (at es q) v i → q < length es
  reads_inside q v i h = elim (cases_lt q (length es)) [ inl b ↦ b | inr over ↦ absurd (subst (λ e. ReadsSummand plan p s e v i) (get_or_past es q End over) h) ]

  sooner : (q v i : ℕ) (e : Instruction) → Contains es e → q < length es → ranks e < ranks (at es q) → SetsSummand plan p s e v i → IsSet plan p s q v i
  sooner q v i e h l less sets = (
    h.0,
    elim (cases_lt h.0 q) [
      | inl b ↦ b
      | inr over ↦ absurd (
          let is : ranks (at es h.0) ≡ ranks e = ap ranks h.2 in
          elim (cases_eq q h.0) [
            | inl same ↦ let f = ap (λ z. ranks (at es z)) same in omega arith
            | inr ne ↦ let a = ranks_rise plan sound s p ls q h.0 (omega arith) h.1 in omega arith
          ])
    ],
    subst (λ e. SetsSummand plan p s e v i) (sym h.2) sets,
  )

  -- a slot that reads in its head what another completes is not of that one's batch
  not_waiting : (j k v : ℕ) → j < k → slot_completes x j v ≡ true → slot_reads x k v ≡ true → is_join x (slot plan s k) ≡ false → batch x k ≡ batch x j → ⊥
  not_waiting j k v less complete reads unjoined same =
      let c = batch_within x j in
      let z : Slot = slot plan s k in
      let apart = (or_parts (list_any (slot_completes x j) (reads_early x z)) (is_join x (slot plan s j) && sets_early x z) (no_wait x k j (omega arith) less)).0 in
      both_ways (slot_completes x j v) (none_passes (slot_completes x j) v (reads_early x z) apart (ap (list_any (nat_eq v)) (early_reads x z unjoined) ∙ reads)) complete

  -- nor is a slot that sets a wire in its head of the batch of one before it that joins
  join_parts : (j k w : ℕ) → j < k → is_join x (slot plan s j) ≡ true → is_join x (slot plan s k) ≡ false → slot_sets x k w ≡ true → batch x k ≡ batch x j → ⊥
  join_parts j k w less joins unjoined sets same =
      let c = batch_within x j in
      let z : Slot = slot plan s k in
      let early : sets_early x z ≡ true = and_from (not (is_join x z)) (list_any (λ v. true) (sets_in x z)) (not_from_false (is_join x z) unjoined) (some_wire w (sets_in x z) sets) in
      let none = (or_parts (list_any (slot_completes x j) (reads_early x z)) (is_join x (slot plan s j) && sets_early x z) (no_wait x k j (omega arith) less)).1 in
      both_ways (is_join x (slot plan s j) && sets_early x z) none (and_from (is_join x (slot plan s j)) (sets_early x z) joins early)

  -- an instruction of a head that sets a wire is of a slot that joins nothing
  head_apart : (e : Instruction) (w : ℕ) → Sets plan sound s p ls lp e w → part_at e ≡ 0 → is_join x (slot plan s (named plan e)) ≡ false
  head_apart e w a head = elim (cases_Bool (is_join x (slot plan s (named plan e)))) [
    | inl joins ↦ never (sym head ∙ (a.joins joins).0)
    | inr unjoined ↦ unjoined
  ]

  -- what a slot completes, no slot reads up to one of its batch that sets a wire in its head
  between : (n b v w : ℕ) (e : Instruction) → n < b → slot_completes x n v ≡ true → slot_reads x b v ≡ true → b ≤ named plan e → Sets plan sound s p ls lp e w → part_at e ≡ 0 → batch x (named plan e) ≡ batch x n → ⊥
  between n b v w e less complete reads le a head same =
      let k : ℕ = named plan e in
      let unjoined : is_join x (slot plan s k) ≡ false = head_apart e w a head in
      let r1 = rising x n b (omega arith) in
      let r2 = rising x b k le in
      elim (cases_Bool (is_join x (slot plan s b))) [
        | inr unjoined ↦ not_waiting n b v less complete reads unjoined (omega arith)
        | inl joins ↦ elim (cases_eq b k) [
          | inl one ↦ both_ways (is_join x (slot plan s k)) unjoined (subst (λ z. is_join x (slot plan s z) ≡ true) one joins)
          | inr ne ↦ join_parts b k w (omega arith) joins unjoined a.sets (omega arith)
        ]
      ]

  module _ (order : IsInOrder x) where
    reads_there : (q v i : ℕ) → q < length es → i < m → named plan (at es q) < slots plan s → ReadsThere plan sound s p ls lp (at es q) v i → IsSet plan p s q v i
    reads_there q v i l li lk r =
        let k : ℕ = named plan (at es q) in
        let by = order.before k v lk r.reads in
        let j : ℕ = by.0 in
        let less : j < k = by.1 in
        let one : Setter j v i = setter v i li r.held j (slot plan s j) (omega arith) refl by.2 in
        let up = rising x j k (omega arith) in
        let at_j : batch x (named plan one.instruction) ≡ batch x j = ap (batch x) one.named in
        sooner q v i one.instruction one.stands l
        (let st = step_few one.instruction in
        let sl = one.named in
        elim (part_or one.instruction) [
          | inl early ↦ omega arith
          | inr late ↦ elim (cases_eq (batch x k) (batch x j)) [
            | inl same ↦ elim (cases_Bool (is_join x (slot plan s k))) [
              | inl joins ↦ let tail = r.joins joins in omega arith
              | inr unjoined ↦ absurd (not_waiting j k v less (one.late late) r.reads unjoined same)
            ]
            | inr ne ↦ let many = few plan sound s p ls in omega arith
          ]
        ])
        one.sets

    reads_own : (q v i : ℕ) → q < length es → i < m → named plan (at es q) < slots plan s → ReadsOwn plan sound s p ls lp (at es q) v i → IsSet plan p s q v i
    reads_own q v i l li lk r = of (slot plan s k) refl r.own
      where
        k : ℕ
        k = named plan (at es q)

        dealt : (z : Slot) → slot plan s k ≡ z → deals_in plan s p z ≡ true → Deals x z v → IsSet plan p s q v i
        dealt z here e d = sooner q v i (Deal k (deals_before plan p s k)) (deal_there k v z lk here e d) l (let a = r.after in omega arith) (subst (λ y. Deals x y v) (sym here) d)

        of : (z : Slot) → slot plan s k ≡ z → OwnIn plan sound s p ls lp z v i → IsSet plan p s q v i
        of (Mask t side) here own = sooner q v i (Draw k) (draw_there k t i side li lk here own.1) l (let a = r.after in omega arith) (subst (λ y. TakesInto x y v) (sym here) own.0, own.1)
        of (Input u) here own = dealt (Input u) here own.0 own.1
        of (At_gate t) here own = dealt (At_gate t) here own.0 own.1
        of (Output o) here own = dealt (Output o) here own.0 own.1
        of (Mask_product t) here own = dealt (Mask_product t) here own.0 own.1
        of (Masked t side) here own = dealt (Masked t side) here own.0 own.1
        of (Kept u) here own = dealt (Kept u) here own.0 own.1

    -- an instruction before sets what an instruction reads
    pub reads_are_set : (q v i : ℕ) → i < m → ReadsSummand plan p s (at es q) v i → IsSet plan p s q v i
    reads_are_set q v i li h =
        let it = reads_at plan sound s p ls lp q v i h in
        elim it.1 [ inl r ↦ reads_there q v i (reads_inside q v i h) li it.0 r | inr r ↦ reads_own q v i (reads_inside q v i h) li it.0 r ]

    -- ---- rows

    one_slot : (j k v : ℕ) → j < slots plan s → k < slots plan s → slot_sets x j v ≡ true → slot_sets x k v ≡ true → j ≡ k
    one_slot j k v lj lk a b = elim (cases_eq j k) [
      | inl e ↦ e
      | inr ne ↦ absurd (elim (cases_lt j k) [
        | inl l ↦ both_ways (slot_sets x k v) (order.once j k v l lk a) b
        | inr l ↦ both_ways (slot_sets x j v) (order.once k j v (omega arith) lj b) a
      ])
    ]

    -- a slot reads a wire after the slot that sets it
    reads_after : (j k v : ℕ) → j < slots plan s → k < slots plan s → slot_sets x j v ≡ true → slot_reads x k v ≡ true → j < k
    reads_after j k v lj lk a r =
        let by = order.before k v lk r in
        let l : by.0 < k = by.1 in
        let same : by.0 ≡ j = one_slot by.0 j v (omega arith) lj by.2 a in
        omega arith

    numbered : SlotsAreNumbered x
    numbered = slots_are_numbered x

    -- behind a slot of an output none sets a wire
    outputs_last : (k j o v : ℕ) → slot plan s k ≡ Output o → k ≤ j → j < slots plan s → slot_sets x j v ≡ true → ⊥
    outputs_last k j o v e le lj h =
        let first : ℕ = first_of_gate x (length x.gates) in
        let at_k : first + o ≡ k = ap (session_slot_number x) (sym e) ∙ numbered.number k (omega arith) in
        let u : ℕ = j - first in
        let at_j : first + u ≡ j = omega arith in
        let count = numbered.count in
        elim (cases_lt u (length (readers x))) [
          | inl l ↦
              let here : slot plan s j ≡ Output u = sym (ap (slot plan s) at_j) ∙ (numbered.there (Output u) l).1 in
              false≢true (sym (ap (λ z. list_any (nat_eq v) (sets_in x z)) here) ∙ h)
          | inr past ↦
              let i : ℕ = u - length (readers x) in
              let at_i : first + length (readers x) + i ≡ j = omega (arith, past, at_j) in
              let here : slot plan s j ≡ Kept i = sym (ap (slot plan s) at_i) ∙ (numbered.there (Kept i) (omega (arith, at_i, lj, count))).1 in
              false≢true (sym (ap (λ z. list_any (nat_eq v) (sets_in x z)) here) ∙ h)
        ]

    -- behind what is opened of a prepared product none of the batch does so in its head
    masked_last : (o k t w : ℕ) (side : Side) → slot plan s o ≡ Masked t side → o < k → k < slots plan s → slot_sets x k w ≡ true → is_join x (slot plan s k) ≡ false → batch x k ≡ batch x o → ⊥
    masked_last o k t w side e less lk sets unjoined same =
        let inside : Inside x (Masked t side) = subst (Inside x) e (numbered.inside o (omega arith)) in
        let at_o : session_slot_number x (Masked t side) ≡ o = ap (session_slot_number x) (sym e) ∙ numbered.number o (omega arith) in
        let near = on_side side in
        let joined = numbered.there (At_gate t) inside.0 in
        let j : ℕ = session_slot_number x (At_gate t) in
        let two : j ≡ first_of_gate x t + 2 = ap (λ n. first_of_gate x t + n) (cond-true (is_prepared x t) 2 0 inside.1) in
        let joins : is_join x (slot plan s j) ≡ true = ap (is_join x) joined.1 ∙ inside.1 in
        elim (cases_lt j k) [
          | inl over ↦
              let r1 = rising x o j (omega arith) in
              let r2 = rising x j k (omega arith) in
              join_parts j k w over joins unjoined sets (omega arith)
          | inr within ↦ elim (cases_eq k j) [
            | inl one ↦ both_ways (is_join x (slot plan s k)) unjoined (subst (λ z. is_join x (slot plan s z) ≡ true) (sym one) joins)
            | inr ne ↦
                let at_k : first_of_gate x t + 1 ≡ k = omega arith in
                let here : slot plan s k ≡ Masked t Second = sym (ap (slot plan s) at_k) ∙ (numbered.there (Masked t Second) inside).1 in
                false≢true (sym (ap (λ z. list_any (nat_eq w) (sets_in x z)) here) ∙ sets)
          ]
        ]
      where
        on_side : (side : Side) → (first_of_gate x t ≤ session_slot_number x (Masked t side)) × (session_slot_number x (Masked t side) ≤ first_of_gate x t + 1)
        on_side First = (omega arith, omega arith)
        on_side Second = (omega arith, omega arith)

    -- behind a slot that reads in its tail none of the batch sets a wire in its head
    late_last : (o k w : ℕ) (z : Slot) → slot plan s o ≡ z → ReadsLate x z → o < k → k < slots plan s → slot_sets x k w ≡ true → is_join x (slot plan s k) ≡ false → batch x k ≡ batch x o → ⊥
    late_last o k w (At_gate t) e late less lk sets unjoined same = join_parts o k w less (ap (is_join x) e ∙ late) unjoined sets same
    late_last o k w (Output u) e late less lk sets unjoined same = outputs_last o k u w e (omega arith) lk sets
    late_last o k w (Masked t side) e late less lk sets unjoined same = masked_last o k t w side e less lk sets unjoined same
    late_last o k w (Input u) e late less lk sets unjoined same = absurd late
    late_last o k w (Mask t side) e late less lk sets unjoined same = absurd late
    late_last o k w (Mask_product t) e late less lk sets unjoined same = absurd late
    late_last o k w (Kept u) e late less lk sets unjoined same = absurd late

    -- a slot that sets a wire and reads in its tail joins
    late_joins : (z : Slot) (w : ℕ) → ReadsLate x z → list_any (nat_eq w) (sets_in x z) ≡ true → is_join x z ≡ true
    late_joins (At_gate t) w late sets = late
    late_joins (Output o) w late sets = absurd (false≢true sets)
    late_joins (Masked t side) w late sets = absurd (false≢true sets)
    late_joins (Input u) w late sets = absurd late
    late_joins (Mask t side) w late sets = absurd late
    late_joins (Mask_product t) w late sets = absurd late
    late_joins (Kept u) w late sets = absurd late

    -- a slot reads nothing of a wire after another was set there
    same_slot : (e g : Instruction) (v w i : ℕ) → Sets plan sound s p ls lp e w → ReadsThere plan sound s p ls lp g v i → named plan g ≡ named plan e → ranks e + past e ≤ ranks g → ⊥
    same_slot e g v w i a b same le =
        let f : batch x (named plan g) ≡ batch x (named plan e) = ap (batch x) same in
        let sets : slot_sets x (named plan g) w ≡ true = subst (λ z. slot_sets x z w ≡ true) (sym same) a.sets in
        elim (part_or g) [
          | inl early ↦
              let step : step_at g ≡ 0 = b.first early w sets in
              let c = a.beyond v (subst (λ z. slot_reads x z v ≡ true) same b.reads) in
              omega arith
          | inr late ↦
              let joins = late_joins (slot plan s (named plan g)) w (b.tail late) sets in
              let last = a.joins (subst (λ z. is_join x (slot plan s z) ≡ true) same joins) in
              let c = last.0 in
              let d = last.1 in
              let st = step_few g in
              omega arith
        ]

    module _ (rows : List ℕ) (table : IsRowTable x rows) where
      -- a wire that is set in a tail after one that a later slot of the batch set in its head
      early : (e f : Instruction) (v w k : ℕ) → Sets plan sound s p ls lp e w → Sets plan sound s p ls lp f v → named plan e < named plan f → ranks f + past f ≤ ranks e → k < slots plan s → slot_reads x k v ≡ true → slice_index rows v ≢ slice_index rows w
      early e f v w k a b less le lk reads =
          let j : ℕ = named plan e in
          let n : ℕ = named plan f in
          let up = rising x j n (omega arith) in
          let st = step_few e in
          let many = few plan sound s p ls in
          let lj = a.within in
          let ln = b.within in
          let tail : part_at e ≡ 1 = elim (part_or e) [ inl c ↦ absurd (omega arith) | inr c ↦ c ] in
          let head : part_at f ≡ 0 = elim (part_or f) [ inl c ↦ c | inr c ↦ absurd (omega arith) ] in
          let same : batch x n ≡ batch x j = omega arith in
          elim (cases_Bool (is_read x w)) [
            | inl yes' ↦
                let by = some_found (session_slots x) (λ z. slot_reads x z w) yes' in
                let after : j < by.0 = reads_after j by.0 w lj by.1 a.sets by.2 in
                elim (cases_lt n by.0) [
                  | inl over ↦ (λ z. table.apart j n by.0 w v less over by.1 a.sets by.2 b.sets (sym z))
                  | inr within ↦ absurd (between j by.0 w v f after (a.late tail) by.2 within b head same)
                ]
            | inr no' ↦ (λ z.
                let none = table.unread w no' in
                let some = table.read v (some_at (session_slots x) (λ z. slot_reads x z v) k lk reads) in
                omega arith)
          ]

      -- what is read where it stands
      row_there : (e f g : Instruction) (v w i : ℕ) → Sets plan sound s p ls lp e w → Sets plan sound s p ls lp f v → named plan g < slots plan s → ReadsThere plan sound s p ls lp g v i → named plan f ≢ named plan e
          → ranks f + past f ≤ ranks e → ranks e + past e ≤ ranks g → slice_index rows v ≢ slice_index rows w
      row_there e f g v w i a b lo there other le1 le2 =
          let k : ℕ = named plan e in
          let n : ℕ = named plan f in
          let o : ℕ = named plan g in
          let lk : k < slots plan s = a.within in
          elim (cases_lt n k) [
            | inr back ↦ early e f v w o a b (omega arith) le1 lo there.reads
            | inl less ↦ elim (cases_lt k o) [
              | inl over ↦ table.apart n k o v w less over lo b.sets there.reads a.sets
              | inr back ↦ absurd (elim (cases_eq o k) [
                | inl same ↦ same_slot e g v w i a there same le2
                | inr apart ↦
                    let up = rising x o k back in
                    let many = few plan sound s p ls in
                    let se = step_few e in
                    let sg = step_few g in
                    let tail : part_at g ≡ 1 = elim (part_or g) [ inl c ↦ absurd (omega arith) | inr c ↦ c ] in
                    let head : part_at e ≡ 0 = elim (part_or e) [ inl c ↦ c | inr c ↦ absurd (omega arith) ] in
                    late_last o k w (slot plan s o) refl (there.tail tail) (omega arith) lk a.sets (head_apart e w a head) (omega arith)
              ])
            ]
          ]

      -- what is read of its own
      row_own : (e f g : Instruction) (v w i : ℕ) → Sets plan sound s p ls lp e w → Sets plan sound s p ls lp f v → named plan g < slots plan s → ReadsOwn plan sound s p ls lp g v i → named plan f ≢ named plan e
          → ranks f + past f ≤ ranks e → ranks e + past e ≤ ranks g → slice_index rows v ≢ slice_index rows w
      row_own e f g v w i a b lo own other le1 le2 =
          let k : ℕ = named plan e in
          let n : ℕ = named plan f in
          let o : ℕ = named plan g in
          let lk : k < slots plan s = a.within in
          let ln : n < slots plan s = b.within in
          let many = few plan sound s p ls in
          let se = step_few e in
          let sg = step_few g in
          let same : o ≡ n = one_slot o n v lo ln (own_sets plan sound s p ls lp (slot plan s o) v i own.own) b.sets in
          let bm : batch x o ≡ batch x n = ap (batch x) same in
          elim (part_or g) [
            | inl head ↦ absurd (elim (cases_lt k n) [
              | inl less ↦ let up = rising x k n (omega arith) in omega arith
              | inr back ↦ let up = rising x n k back in omega arith
            ])
            | inr tail ↦
                let sum = own.sum tail in
                let by = some_found (session_slots x) (λ z. slot_reads x z v) sum.0 in
                let after : n < by.0 = reads_after n by.0 v ln by.1 b.sets by.2 in
                elim (cases_lt n k) [
                  | inr back ↦ early e f v w by.0 a b (omega arith) le1 by.1 by.2
                  | inl less ↦ elim (cases_lt k by.0) [
                    | inl over ↦ table.apart n k by.0 v w less over by.1 b.sets by.2 a.sets
                    | inr within ↦ absurd (
                        let up = rising x n k (omega arith) in
                        let head : part_at e ≡ 0 = elim (part_or e) [ inl c ↦ c | inr c ↦ absurd (omega arith) ] in
                        between n by.0 v w e after (subst (λ z. slot_completes x z v ≡ true) same sum.1) by.2 within a head (omega arith))
                  ]
                ]
          ]

      -- a wire that is set and still to be read has another row than a wire that is set now
      pub own_row : (q v w i j : ℕ) → SetsSummand plan p s (at es q) w j → IsSet plan p s q v i → IsToRead plan p s (suc q) v i → v ≢ w → slice_index rows v ≢ slice_index rows w
      own_row q v w i j now was later ne =
          let e : Instruction = at es q in
          let f : Instruction = at es was.0 in
          let g : Instruction = at es later.0 in
          let a = all_sets plan sound s p ls lp q w j now in
          let b = all_sets plan sound s p ls lp was.0 v i was.2 in
          let c = reads_at plan sound s p ls lp later.0 v i later.2 in
          let end : later.0 < length es = reads_inside later.0 v i later.2 in
          let l1 : was.0 < q = was.1 in
          let l2 : q < later.0 = (let z = later.1 in omega arith) in
          let le1 : ranks f + past f ≤ ranks e = ranks_rise plan sound s p ls was.0 q l1 (omega arith) in
          let le2 : ranks e + past e ≤ ranks g = ranks_rise plan sound s p ls q later.0 l2 end in
          let other : named plan f ≢ named plan e = (λ z. ne (sets_one x (named plan e) v w (subst (λ y. slot_sets x y v ≡ true) z b.sets) a.sets)) in
          elim c.1 [ inl there ↦ row_there e f g v w i a b c.0 there other le1 le2 | inr own ↦ row_own e f g v w i a b c.0 own other le1 le2 ]

    -- ---- what is still to be read of a gate's wire, once it is complete, is held, and some slot reads the wire

    -- of a gate that isn't dealt there is nothing of its own
    none_own : (k t w i : ℕ) → slot plan s k ≡ At_gate t → is_direct x t ≡ false → OwnIn plan sound s p ls lp (slot plan s k) w i → ⊥
    none_own k t w i here undealt own =
        let dealt : deals_in plan s p (At_gate t) ≡ true = (subst (λ z. OwnIn plan sound s p ls lp z w i) here own).0 in
        both_ways (is_direct x t) undealt (and_parts (is_direct x t) (has_pair (scheme plan) p) dealt).0

    held_of : (q w i : ℕ) (e : Instruction) → at es q ≡ e → Finishes e → SetsSummand plan p s e w i → (r : ℕ) → suc q ≤ r → r < length es → Reading plan sound s p ls lp (at es r) w i → (is_holder plan p i ≡ true) × (is_read x w ≡ true)
    held_of q w i e is done sets r later end (lk, inl there) = (there.held, some_at (session_slots x) (λ z. slot_reads x z w) (named plan (at es r)) lk there.reads)
    held_of q w i e is done sets r later end (lk, inr own) =
        let set = sets_of plan sound s p ls lp q e is w i sets in
        let same : named plan (at es r) ≡ named plan e = one_slot (named plan (at es r)) (named plan e) w lk set.within (own_sets plan sound s p ls lp (slot plan s (named plan (at es r))) w i own.own) set.sets in
        of e is done (subst (λ z. OwnIn plan sound s p ls lp (slot plan s z) w i) same own.own) same
      where
        unless_product : (prepared product : Bool) → product ≡ false → (not prepared && product) ≡ false
        unless_product true product e = refl
        unless_product false product e = e

        unless_direct : (prepared product : Bool) → (prepared && product) ≡ true → (not prepared && product) ≡ false
        unless_direct true product e = refl
        unless_direct false product e = absurd (false≢true e)

        of : (e : Instruction) → at es q ≡ e → Finishes e → OwnIn plan sound s p ls lp (slot plan s (named plan e)) w i → named plan (at es r) ≡ named plan e → (is_holder plan p i ≡ true) × (is_read x w ≡ true)
        of (Linear k) is done mine same =
            let it = fits plan sound s p ls q (Linear k) is (λ e. cc) in
            absurd (none_own k it.1.0 w i it.1.1 (unless_product x.prepared (is_product (gate x it.1.0).operation) it.1.2) mine)
        of (Join k) is done mine same =
            let it = fits plan sound s p ls q (Join k) is (λ e. cc) in
            absurd (none_own k it.1.0 w i it.1.1 (unless_direct x.prepared (is_product (gate x it.1.0).operation) it.1.2) mine)
        of (Sum k) is done mine same = elim (part_or (at es r)) [
          | inl head ↦ absurd (
              let a : ranks (at es q) + past (at es q) ≤ ranks (at es r) = ranks_rise plan sound s p ls q r (omega arith) end in
              let b : ranks (at es q) ≡ ranks (Sum k) = ap ranks is in
              let c : batch x (named plan (at es r)) ≡ batch x k = ap (batch x) same in
              let d = step_few (at es r) in
              omega arith)
          | inr tail ↦ let sum = own.sum tail in (sum.2, sum.0)
        ]
        of (Draw k) is done mine same = absurd done
        of (Deal k d) is done mine same = absurd done
        of (Post n j) is done mine same = absurd done
        of (Take n j) is done mine same = absurd done
        of (Own k) is done mine same = absurd done
        of (Open k) is done mine same = absurd done
        of (Deliver k) is done mine same = absurd done
        of End is done mine same = absurd done

    pub read_is_held : (q w i : ℕ) → Finishes (at es q) → SetsSummand plan p s (at es q) w i → IsToRead plan p s (suc q) w i → (is_holder plan p i ≡ true) × (is_read x w ≡ true)
    read_is_held q w i done sets later = held_of q w i (at es q) refl done sets later.0 later.1 (reads_inside later.0 w i later.2) (reads_at plan sound s p ls lp later.0 w i later.2)
