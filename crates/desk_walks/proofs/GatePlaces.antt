-- Where a desk stands at gates.
use Rattle.std.proofs.Common.{◌≡◌, ◌≢◌, ℕ, zero, suc, ◌+◌, ◌<◌, ◌≤◌, ◌^◌, Bool, true, false, not, ◌&&◌, if◌then◌else◌, List, [], ◌∷◌, length, drop, refl, sym, ap, ◌∙◌, subst, inl, inr, arith}
use Rattle.std.specs.Prelude.{slice_index, slice_index_or}
use Rattle.std.proofs.lemmas.Bool.{cases_lt, false≢true}
use Rattle.circuit_model.specs.Circuits.{is_product}
use Rattle.circuit_model.specs.declared.gate.Gate.{Gate}
use Rattle.job_session.specs.Batches.{IsBatch}
use Rattle.session_slots.specs.Sessions.{Session, Slot, owners, session_slot, session_slots, product_in}
use Rattle.session_slots.specs.Sessions.Slot.{Input, At_gate, Output, Mask, Mask_product, Masked, Kept}
use Rattle.session_slots.proofs.SessionSlots.{slot_cases}
use Rattle.plan_model.specs.declared.pattern.Pattern.TheVariants.{Silent, Multiplied, Joined}
use Rattle.plan_model.specs.Plans.{IsPlan, Plan, session, slot, slots}
use Rattle.plan_model.specs.Numbers.{deals_before}
use Rattle.plan_model.specs.Patterns.{pattern, pattern_at}
use Rattle.plan_model.proofs.PlanSchemes.{plan_is}
use Rattle.program_model.specs.declared.half.Half.{Half}
use Rattle.program_model.specs.declared.half.Half.TheVariants.{Head, Tail}
use Rattle.party_program.specs.declared.place.Place.{Place}
use Rattle.program_model.specs.declared.instruction.Instruction.{Instruction}
use Rattle.program_model.specs.declared.instruction.Instruction.TheVariants.{Linear, Post, Sum, End}
use Rattle.party_program.specs.declared.step.Step.{Step}
use Rattle.party_program.specs.declared.step.Step.TheVariants as step
use Rattle.program_model.specs.Programs.{first_named, half_program, program, at}
use Rattle.party_program.specs.PartySteps.{steps, placed}
use Rattle.program_model.specs.Proper.{IsGate, IsGivenWord, IsSlot, Multiplies, Proper, drawn_by}
use Rattle.party_program.specs.ProgramPlaces.{position_of, InProduct, IsPlace}
use Rattle.program_model.specs.States.{Given, computed, summed}
use Rattle.party_program.proofs.GateInstructions.{linear_place}
use Rattle.party_program.proofs.ProgramPlaces.{batch_of, before_more, count_at, ends_there, in_slot, instruction_is, length-half, step_is}
use Rattle.party_program.proofs.GateSlots.{first_place, first_is, linear_at, linear_more, linear_one}
use Rattle.program_laws.specs.WordsRead.{gate_at}
use Rattle.party_desk.specs.declared.desk.Desk.{Desk}
use Rattle.party_desk.specs.declared.memory.Memory.{Memory}
use Rattle.party_desk.specs.Memories.{state_of, row_of, on_rows, Alike, IsMemoryOf, KeepsGiven}
use Rattle.row_steps.specs.Rows.{gate_in, AreLinear, IsFirstProduct}
use Rattle.party_desk.specs.Desks.{Advanced, IsDesk, after_on_rows, instruction_at, posts_in, takes_in}
use Rattle.desk_walks.specs.Walks.{IsDeskOfPlan, IsUnplaced, IsBefore, IsAmongGates, IsSlotOf, AreGatesFrom, NoPosts, Computes, at_place}
use Rattle.party_desk.proofs.AllowedSteps.{proper_own, stays}
use Rattle.desk_walks.proofs.GateWalks.{few_done, moved_place, silent_computes}
use Rattle.party_desk.proofs.NamedSlots.{product_in_slot}

-- ---- an instruction that changes the memory alone

-- the desk goes on to this place with this memory
module _ (l : Given) (d : Desk) (h : IsDesk l d) (i : Instruction) (m : Memory) (place : Place) (is : IsPlace l.plan l.party l.session place (d.position + 1)) (fits : IsMemoryOf l.plan d.session m) (kept : KeepsGiven d.memory m) where
  pub advances_at : posts_in i ≡ 0 → takes_in i ≡ 0 → drawn_by l.plan d.party i ≡ 0
      → Alike (length l.plan.groups) (state_of (length l.plan.groups) m)
      (after_on_rows (row_of d.memory) l.plan d.party d.session (slice_index d.memory.tape) (slice_index d.memory.inputs.items d.memory.given) 0 i (state_of (length l.plan.groups) d.memory))
      → Advanced l.plan 0 i d (at_place (record d { position = d.position + 1; memory = m }) place)
  advances_at no_post no_take no_draw state = record {
    party = refl;
    session = refl;
    program = refl;
    instructions = refl;
    position = refl;
    place = subst (λ z. IsPlace l.plan z d.session place (d.position + 1)) (sym h.party) (subst (λ z. IsPlace l.plan l.party z place (d.position + 1)) (sym h.session) is);
    sent = omega (arith, no_post);
    taken = omega (arith, no_take);
    piece = refl;
    fits = fits;
    table = kept.table;
    inputs = kept.inputs;
    tape = kept.tape ∙ sym (ap (λ n. drop n d.memory.tape) no_draw);
    state = state;
  }

-- ---- slots of gates

-- where products are dealt themselves, the slot of a product is among those of gates
pub gate_slot : (s : Session) → s.prepared ≡ false → (k : ℕ) → k < session_slots s → Multiplies (session_slot s k) → (length (owners s) ≤ k) × (k < length (owners s) + length s.gates)
gate_slot s direct k lk =
    slot_cases s direct (λ j z. Multiplies z → (length (owners s) ≤ j) × (j < length (owners s) + length s.gates))
    (λ v l h. absurd h) (λ t l h. (omega arith, omega arith)) (λ o l h. absurd h) (λ j l h. absurd h) k lk

-- a slot of a product is of a gate, or of a product of masks
pub product_gate : (plan : Plan) (s k : ℕ) → pattern_at plan s k ≡ Multiplied → Multiplies (slot plan s k)
product_gate plan s k = product_in_slot plan s (slot plan s k)

-- a slot of a gate is one in which a product may be
pub gate_multiplies : (z : Slot) → IsGate z → Multiplies z
gate_multiplies (At_gate t) h = tt
gate_multiplies (Input v) h = absurd h
gate_multiplies (Output o) h = absurd h
gate_multiplies (Mask t side) h = absurd h
gate_multiplies (Mask_product t) h = absurd h
gate_multiplies (Masked t side) h = absurd h
gate_multiplies (Kept place) h = absurd h

-- how the slot of a gate goes that isn't a prepared product
by_product : (prepared product : Bool) → (prepared && product) ≡ false → (if (not prepared && product) then Multiplied else if (prepared && product) then Joined else Silent) ≡ (if product then Multiplied else Silent)
by_product true true e = absurd (false≢true (sym e))
by_product true false e = refl
by_product false true e = refl
by_product false false e = refl

pub gate_pattern : (plan : Plan) (s k : ℕ) (g : Gate) (of : IsSlotOf (session plan s) k g) (product : Bool) → is_product g.operation ≡ product → ((session plan s).prepared && product) ≡ false → pattern_at plan s k ≡ (if product then Multiplied else Silent)
gate_pattern plan s k g of product is dealt =
    ap (pattern plan s) of.slot
    ∙ ap (λ b. if (not (session plan s).prepared && b) then Multiplied else if ((session plan s).prepared && b) then Joined else Silent) (ap (λ (z : Gate). is_product z.operation) of.is ∙ is)
    ∙ by_product (session plan s).prepared product dealt

-- ---- the slot that an instruction names is the one where it stands

placed_linear : (k first deals j : ℕ) (x : Step) → placed k first deals x ≡ Linear j → j ≡ k
placed_linear k first deals j step.Draw e = cc
placed_linear k first deals j step.Deal e = cc
placed_linear k first deals j step.Own e = cc
placed_linear k first deals j (step.Post share place) e = cc
placed_linear k first deals j (step.Take share place) e = cc
placed_linear k first deals j step.Linear e = cc
placed_linear k first deals j step.Sum e = cc
placed_linear k first deals j step.Open e = cc
placed_linear k first deals j step.Join e = cc
placed_linear k first deals j step.Deliver e = cc

placed_sum : (k first deals j : ℕ) (x : Step) → placed k first deals x ≡ Sum j → j ≡ k
placed_sum k first deals j step.Draw e = cc
placed_sum k first deals j step.Deal e = cc
placed_sum k first deals j step.Own e = cc
placed_sum k first deals j (step.Post share place) e = cc
placed_sum k first deals j (step.Take share place) e = cc
placed_sum k first deals j step.Linear e = cc
placed_sum k first deals j step.Sum e = cc
placed_sum k first deals j step.Open e = cc
placed_sum k first deals j step.Join e = cc
placed_sum k first deals j step.Deliver e = cc

module _ (l : Given) (d : Desk) (h : IsDesk l d) (more : instruction_at l d ≢ End) where
  abbrev s : ℕ
  s = l.session

  -- the desk's half of a slot has instructions left
  pub left : d.place.done < d.place.count
  left = elim (cases_lt d.place.done d.place.count) [
    | inl a ↦ a
    | inr past ↦ absurd (more (ends_there l.plan l.party s d.place d.position h.place past))
  ]

  pub in_place : d.place.slot < slots l.plan s
  in_place = in_slot l.plan l.party s d.place d.position h.place left

  short : d.place.done < length (steps l.plan l.party d.place.half (pattern_at l.plan s d.place.slot))
  short =
      let some = left in
      let count : d.place.count ≡ length (half_program l.plan l.party s d.place.half d.place.slot) = h.place.count ∙ count_at l.plan l.party s d.place.half d.place.slot in_place in
      let long = length-half l.plan l.party s d.place.half d.place.slot (plan_is l.plan h.suits.sound) h.suits.session in_place in
      omega (arith, some, count, long)

  abbrev here : instruction_at l d ≡ placed d.place.slot (first_named l.plan s d.place.slot) (deals_before l.plan l.party s d.place.slot)
      (slice_index_or (steps l.plan l.party d.place.half (pattern_at l.plan s d.place.slot)) d.place.done step.Deal)
  here =
      instruction_is l.plan l.party s d.place d.position h.place left
      ∙ step_is l.plan l.party s d.place.half d.place.slot (plan_is l.plan h.suits.sound) h.suits.session in_place d.place.done step.Deal short

  pub linear_here : (k : ℕ) → instruction_at l d ≡ Linear k → k ≡ d.place.slot
  linear_here k is = placed_linear _ _ _ k _ (sym here ∙ is)

  pub sum_here : (k : ℕ) → instruction_at l d ≡ Sum k → k ≡ d.place.slot
  sum_here k is = placed_sum _ _ _ k _ (sym here ∙ is)

-- ---- a desk without its place

pub unplaced : (plan : Plan) (l : Given) (d : Desk) → IsDeskOfPlan plan l d → IsUnplaced plan l d
unplaced plan l d goes = record {
  same = goes.same;
  party = goes.desk.party;
  session = goes.desk.session;
  own_program = goes.desk.own_program;
  fits = goes.desk.fits;
  desk = λ place at'. moved_place l d place goes.desk at';
}

-- a place so many steps on in its half of a slot
pub place_on : (plan : Plan) (p s : ℕ) (place : Place) (q n : ℕ) → IsPlace plan p s place q → place.done + n < place.count → IsPlace plan p s (record place { done = place.done + n }) (q + n)
place_on plan p s place q n is left =
    let done : q ≡ position_of plan p s place.half place.batch place.end place.slot + place.done = is.done in
    record {
      batch = is.batch;
      pattern = is.pattern;
      first = is.first;
      done = omega (arith, done);
      count = is.count;
      within = λ less. left;
    }

-- the next half of its kind begins behind this one
pub position_more : (plan : Plan) (p s : ℕ) (half : Half) (a b k : ℕ) → position_of plan p s half a b (k + 1) ≡ position_of plan p s half a b k + length (half_program plan p s half k)
position_more plan p s Head a b k = let more = before_more plan p s Head k in omega (arith, more)
position_more plan p s Tail a b k = let more = before_more plan p s Tail k in omega (arith, more)

-- the last instruction of a half of a slot, which takes nothing, leaves all before the next one done
module _ (plan : Plan) (l : Given) (d : Desk) (goes : IsDeskOfPlan plan l d) (i : Instruction) (is : instruction_at l d ≡ i) (ne : i ≢ End) (given : IsGivenWord l 0 i) (last : d.place.done + 1 ≡ d.place.count)
    (m : Memory) (fits : IsMemoryOf l.plan d.session m) (kept : KeepsGiven d.memory m) where
  abbrev after : Desk
  after = record d { position = d.position + 1; memory = m }

  pub ends_half : posts_in i ≡ 0 → takes_in i ≡ 0 → drawn_by l.plan d.party i ≡ 0
      → Alike (length l.plan.groups) (state_of (length l.plan.groups) m)
      (after_on_rows (row_of d.memory) l.plan d.party d.session (slice_index d.memory.tape) (slice_index d.memory.inputs.items d.memory.given) 0 i (state_of (length l.plan.groups) d.memory))
      → IsBefore plan l d.place.half (d.place.slot + 1) after
  ends_half no_post no_take no_draw state =
      let place = goes.desk.place in
      let there = in_slot l.plan l.party l.session d.place d.position place (omega (arith, last)) in
      let batch = batch_of l.plan l.party l.session d.place d.position place there in
      let from = batch.1 in
      let to = batch.2 in
      let count : d.place.count ≡ length (half_program l.plan l.party l.session d.place.half d.place.slot) = place.count ∙ count_at l.plan l.party l.session d.place.half d.place.slot there in
      let done : d.position ≡ position_of l.plan l.party l.session d.place.half d.place.batch d.place.end d.place.slot + d.place.done = place.done in
      let more = position_more l.plan l.party l.session d.place.half d.place.batch d.place.end d.place.slot in
      record {
        unplaced = record {
          same = goes.same;
          party = goes.desk.party;
          session = goes.desk.session;
          own_program = goes.desk.own_program;
          fits = subst (λ z. IsMemoryOf l.plan z m) goes.desk.session fits;
          desk = λ place' at'.
              stays l d goes.desk (at_place after place') 0 i is ne given
              (advances_at l d goes.desk i m place' at' fits kept no_post no_take no_draw state);
        };
        batch = batch.0;
        from = omega (arith, from);
        to = omega (arith, to);
        position = omega (arith, count, done, more, last);
      }

-- the sum of a product leaves all before the next tail done
pub sum_after : (plan : Plan) (l : Given) (d : Desk) (goes : IsDeskOfPlan plan l d) (k : ℕ) → instruction_at l d ≡ Sum k → InProduct Tail d.place → d.place.done + 1 ≡ d.place.count → (m : Memory) → IsMemoryOf plan d.session m → KeepsGiven d.memory m
    → Alike (length plan.groups) (state_of (length plan.groups) m) (on_rows (row_of d.memory) ((gate_at plan d.session k).output ∷ []) (summed plan d.party (gate_at plan d.session k)) (state_of (length plan.groups) d.memory))
    → IsBefore plan l Tail (k + 1) (record d { position = d.position + 1; memory = m })
sum_after plan l d goes k is in_product last m fits kept state =
    let its : k ≡ d.place.slot = sum_here l d goes.desk (λ z. let both : Sum k ≡ End = sym is ∙ z in cc) k is in
    let fits' : IsMemoryOf l.plan d.session m = subst (λ z. IsMemoryOf z d.session m) (sym goes.same) fits in
    let state' : Alike (length l.plan.groups) (state_of (length l.plan.groups) m) (on_rows (row_of d.memory) ((gate_at l.plan d.session k).output ∷ []) (summed l.plan d.party (gate_at l.plan d.session k)) (state_of (length l.plan.groups) d.memory)) =
    subst (λ z. Alike (length z.groups) (state_of (length z.groups) m) (on_rows (row_of d.memory) ((gate_at z d.session k).output ∷ []) (summed z d.party (gate_at z d.session k)) (state_of (length z.groups) d.memory))) (sym goes.same) state in
    subst (λ z. IsBefore plan l Tail (z + 1) (record d { position = d.position + 1; memory = m })) (sym its)
    (subst (λ z. IsBefore plan l z (d.place.slot + 1) (record d { position = d.position + 1; memory = m })) in_product.0
    (ends_half plan l d goes (Sum k) is (λ z. cc) tt last m fits' kept refl refl refl state'))

-- a linear gate leaves all before the next head done
pub linear_after : (plan : Plan) (l : Given) (d : Desk) (goes : IsDeskOfPlan plan l d) (k : ℕ) → instruction_at l d ≡ Linear k → (m : Memory) → IsMemoryOf plan d.session m → KeepsGiven d.memory m
    → Alike (length plan.groups) (state_of (length plan.groups) m) (on_rows (row_of d.memory) ((gate_at plan d.session k).output ∷ []) (computed (2 ^ plan.bits) (gate_at plan d.session k)) (state_of (length plan.groups) d.memory))
    → IsBefore plan l Head (k + 1) (record d { position = d.position + 1; memory = m })
linear_after plan l d goes k is m fits kept state =
    let ne : instruction_at l d ≢ End = λ z. let both : Linear k ≡ End = sym is ∙ z in cc in
    let its : k ≡ d.place.slot = linear_here l d goes.desk ne k is in
    let place = goes.desk.place in
    let more = left l d goes.desk ne in
    let there = in_place l d goes.desk ne in
    let batch = batch_of l.plan l.party l.session d.place d.position place there in
    let gate' = linear_place l.plan l.party l.session (plan_is l.plan goes.desk.suits.sound) goes.desk.suits.session d.place d.position place k is in
    let silent : pattern_at l.plan l.session d.place.slot ≡ Silent = sym (place.pattern there) ∙ gate'.1 in
    let one = linear_one l.plan l.party l.session d.place.batch d.place.end d.place.slot (plan_is l.plan goes.desk.suits.sound) goes.desk.suits.session batch.0 batch.1 batch.2 silent in
    let count : d.place.count ≡ length (half_program l.plan l.party l.session Head d.place.slot) =
    place.count ∙ count_at l.plan l.party l.session d.place.half d.place.slot there ∙ ap (λ z. length (half_program l.plan l.party l.session z d.place.slot)) gate'.0 in
    let fits' : IsMemoryOf l.plan d.session m = subst (λ z. IsMemoryOf z d.session m) (sym goes.same) fits in
    let state' : Alike (length l.plan.groups) (state_of (length l.plan.groups) m) (on_rows (row_of d.memory) ((gate_at l.plan d.session k).output ∷ []) (computed (2 ^ l.plan.bits) (gate_at l.plan d.session k)) (state_of (length l.plan.groups) d.memory)) =
    subst (λ z. Alike (length z.groups) (state_of (length z.groups) m) (on_rows (row_of d.memory) ((gate_at z d.session k).output ∷ []) (computed (2 ^ z.bits) (gate_at z d.session k)) (state_of (length z.groups) d.memory))) (sym goes.same) state in
    subst (λ z. IsBefore plan l Head (z + 1) (record d { position = d.position + 1; memory = m })) (sym its)
    (subst (λ z. IsBefore plan l z (d.place.slot + 1) (record d { position = d.position + 1; memory = m })) gate'.0
    (ends_half plan l d goes (Linear k) is (λ z. cc) tt (omega (arith, more, count, one)) m fits' kept refl refl refl state'))

-- ---- before the head of a linear gate

module _ (plan : Plan) (l : Given) (d : Desk) (k : ℕ) (before : IsBefore plan l Head k d) (less : k < d.place.end) (silent : pattern_at l.plan l.session k ≡ Silent) where
  abbrev ls : l.session < length l.plan.sessions
  ls = before.unplaced.own_program.session_there

  abbrev start : Place
  start = first_place l.plan l.party l.session d.place.batch d.place.end k (plan_is l.plan before.unplaced.own_program.sound) ls before.batch before.from less Head

  starts : IsPlace l.plan l.party l.session start d.position
  starts =
      let one = linear_one l.plan l.party l.session d.place.batch d.place.end k (plan_is l.plan before.unplaced.own_program.sound) ls before.batch before.from less silent in
      subst (IsPlace l.plan l.party l.session start) (sym before.position)
      (first_is l.plan l.party l.session d.place.batch d.place.end k (plan_is l.plan before.unplaced.own_program.sound) ls before.batch before.from less Head (omega (arith, one)))

  abbrev desk : Desk
  desk = at_place d start

  stands_there : IsDesk l desk
  stands_there = before.unplaced.desk start starts

  linear_there : instruction_at l desk ≡ Linear k
  linear_there =
      ap (at (program l.plan l.party l.session)) before.position
      ∙ linear_at l.plan l.party l.session d.place.batch d.place.end k (plan_is l.plan before.unplaced.own_program.sound) ls before.batch before.from less silent

  pub few_before : d.position < 4294967295
  few_before = few_done l desk stands_there

  pub gate_before : (m : Memory) → IsMemoryOf plan d.session m → KeepsGiven d.memory m
      → Alike (length plan.groups) (state_of (length plan.groups) m) (on_rows (row_of d.memory) ((gate_at plan d.session k).output ∷ []) (computed (2 ^ plan.bits) (gate_at plan d.session k)) (state_of (length plan.groups) d.memory))
      → IsBefore plan l Head (k + 1) (record d { position = d.position + 1; memory = m })
  gate_before m fits kept state =
      let more = linear_more l.plan l.party l.session d.place.batch d.place.end k (plan_is l.plan before.unplaced.own_program.sound) ls before.batch before.from less silent in
      let here = before.position in
      let lower = before.from in
      let fits' : IsMemoryOf l.plan d.session m = subst (λ z. IsMemoryOf z d.session m) (sym before.unplaced.same) fits in
      let state' : Alike (length l.plan.groups) (state_of (length l.plan.groups) m) (on_rows (row_of d.memory) ((gate_at l.plan d.session k).output ∷ []) (computed (2 ^ l.plan.bits) (gate_at l.plan d.session k)) (state_of (length l.plan.groups) d.memory)) =
      subst (λ z. Alike (length z.groups) (state_of (length z.groups) m) (on_rows (row_of d.memory) ((gate_at z d.session k).output ∷ []) (computed (2 ^ z.bits) (gate_at z d.session k)) (state_of (length z.groups) d.memory))) (sym before.unplaced.same) state in
      record {
        unplaced = record {
          same = before.unplaced.same;
          party = before.unplaced.party;
          session = before.unplaced.session;
          own_program = before.unplaced.own_program;
          fits = subst (λ z. IsMemoryOf l.plan z m) before.unplaced.session fits';
          desk = λ place' at'.
              stays l desk stands_there (at_place (record d { position = d.position + 1; memory = m }) place') 0 (Linear k) linear_there (λ z. cc) tt
              (advances_at l desk stands_there (Linear k) m place' at' fits' kept refl refl refl state');
        };
        batch = before.batch;
        from = omega (arith, lower);
        to = omega (arith, less);
        position = omega (arith, more, here);
      }

  -- it is no post
  pub gate_silent : NoPosts l d.position (d.position + 1)
  gate_silent x n i from to is =
      let here : x ≡ d.position = omega (arith, from, to) in
      let both : Linear k ≡ Post n i = sym linear_there ∙ ap (at (program l.plan l.party l.session)) (sym here) ∙ is in cc

-- ---- one gate after another

-- the gates of the batch from that of this slot on, of the desk's session
module _ (plan : Plan) (l : Given) (d : Desk) (slot i : ℕ) (part : Session) (gates : List Gate) (same : l.plan ≡ plan) (session' : d.session ≡ l.session) (own : part ≡ session plan d.session) (end : ℕ) (are : AreGatesFrom part slot end gates) (less : i < length gates)
    (linear : AreLinear gates i) where
  own_part : part ≡ session l.plan l.session
  own_part = own ∙ ap (λ z. session z d.session) (sym same) ∙ ap (session l.plan) session'

  pub gate_to : slot + i < end
  gate_to = let to = are.to in omega (arith, to, less)

  -- gate i is no prepared product
  module _ (product : Bool) (is : is_product (gate_in gates i).operation ≡ product) (dealt : (part.prepared && product) ≡ false) where
    slot_of : IsSlotOf (session l.plan l.session) (slot + i) (gate_in gates i)
    slot_of = subst (λ z. IsSlotOf z (slot + i) (gate_in gates i)) own_part (are.is i less linear (ap (λ b. part.prepared && b) is ∙ dealt))

    -- its slot is of its pattern
    pub later_pattern : pattern_at l.plan l.session (slot + i) ≡ (if product then Multiplied else Silent)
    later_pattern =
        gate_pattern l.plan l.session (slot + i) (gate_in gates i) slot_of product is
        (subst (λ (z : Session). (z.prepared && product) ≡ false) own_part dealt)

    pub later_gate : gate_at plan d.session (slot + i) ≡ gate_in gates i
    later_gate =
        ap (λ z. gate_at z d.session (slot + i)) (sym same) ∙ ap (λ z. gate_at l.plan z (slot + i)) session'
        ∙ ap (product_in (session l.plan l.session)) slot_of.slot ∙ slot_of.is

-- no gate is prepared in a session without, nor where it is no product
pub never_prepared : (b : Bool) → (b && false) ≡ false
never_prepared true = refl
never_prepared false = refl

-- behind the slot of a gate stands another, or the first slot after those
pub among_next : (plan : Plan) (s k : ℕ) (part : Session) → part ≡ session plan s → IsSlot plan s k Multiplies → IsAmongGates part (k + 1)
among_next plan s k part own named direct =
    let among = gate_slot (session plan s) (ap (λ (z : Session). z.prepared) (sym own) ∙ direct) k named.slot named.kind in
    subst (λ z. (length (owners z) ≤ k + 1) × (k + 1 ≤ length (owners z) + length z.gates)) (sym own)
    (let from = among.0 in
    let to = among.1 in
    (omega (arith, from), omega (arith, to)))

-- and so behind linear ones
pub among_on : (part : Session) (slot end n : ℕ) (gates : List Gate) → AreGatesFrom part slot end gates → IsFirstProduct gates n → IsAmongGates part slot → IsAmongGates part (slot + n)
among_on part slot end zero gates are first among direct = let here : slot ≡ slot + 0 = omega arith in subst (λ z. (length (owners part) ≤ z) × (z ≤ length (owners part) + length part.gates)) here (among direct)
among_on part slot end (suc n) gates are first among direct =
    let few = first.few in
    let from = (among direct).0 in
    let last = are.is n (omega (arith, few)) (λ t less. first.linear t (omega (arith, less))) (ap (λ b. part.prepared && b) (first.linear n (omega arith)) ∙ never_prepared part.prepared) in
    let within = gate_slot part direct (slot + n) last.there (subst Multiplies (sym last.slot) tt) in
    let to = within.1 in
    (omega (arith, from), omega (arith, to))

-- the tails of linear gates are empty
pub tails_stay : (plan : Plan) (p s a b : ℕ) → IsPlan plan → s < length plan.sessions → (k n : ℕ) → k + n ≤ slots plan s → ((t : ℕ) → t < n → pattern_at plan s (k + t) ≡ Silent)
    → position_of plan p s Tail a b (k + n) ≡ position_of plan p s Tail a b k
tails_stay plan p s a b valid ls k zero within silent = let same : k + 0 ≡ k = omega arith in ap (position_of plan p s Tail a b) same
tails_stay plan p s a b valid ls k (suc n) within silent =
    let next : k + suc n ≡ k + n + 1 = omega arith in
    let none : length (half_program plan p s Tail (k + n)) ≡ 0 =
    length-half plan p s Tail (k + n) valid ls (omega (arith, within)) ∙ ap (λ z. length (steps plan p Tail z)) (silent n (omega arith)) in
    let more = position_more plan p s Tail a b (k + n) in
    let moved = ap (position_of plan p s Tail a b) next in
    let rest = tails_stay plan p s a b valid ls k n (omega (arith, within)) (λ t l. silent t (omega (arith, l))) in
    omega (arith, none, more, moved, rest)

-- ---- the place is brought up

-- a place at a half of slot k of the desk's program
module _ (plan : Plan) (l : Given) (d e : Desk) (half : Half) (k : ℕ) (place : Place) (before : IsBefore plan l half k e) (no_post : NoPosts l d.position e.position) (forth : d.position ≤ e.position)
    (at' : IsPlace plan e.program.party e.program.session place (position_of plan e.program.party e.program.session half e.place.batch e.place.end k)) where
  abbrev position : Plan → ℕ → ℕ → ℕ
  position z p s = position_of z p s half e.place.batch e.place.end k

  place_here : IsPlace l.plan l.party l.session place e.position
  place_here =
      let own = before.unplaced.own_program in
      subst (IsPlace l.plan l.party l.session place) (sym before.position)
      (subst (λ z. IsPlace l.plan l.party z place (position l.plan l.party z)) own.of_session
      (subst (λ z. IsPlace l.plan z e.program.session place (position l.plan z e.program.session)) own.of_party
      (subst (λ z. IsPlace z e.program.party e.program.session place (position z e.program.party e.program.session)) (sym before.unplaced.same) at')))

  pub entered : Computes l d (at_place e place)
  entered = record { desk = before.unplaced.desk place place_here; forth = forth; no_post = no_post }

-- the batch of a desk that is before one of its halves
pub batch_before : (plan : Plan) (l : Given) (half : Half) (k : ℕ) (d : Desk) → IsBefore plan l half k d → IsBatch (session plan d.program.session) d.place.batch d.place.end
batch_before plan l half k d before =
    subst (λ z. IsBatch (session z d.program.session) d.place.batch d.place.end) before.unplaced.same
    (subst (λ z. IsBatch (session l.plan z) d.place.batch d.place.end) (sym before.unplaced.own_program.of_session) before.batch)

-- an instruction that is no post leads on by none
pub one_silent : (l : Given) (d e : Desk) (i : Instruction) → instruction_at l d ≡ i → ((m j : ℕ) → i ≢ Post m j) → e.position ≡ d.position + 1 → NoPosts l d.position e.position
one_silent l d e i is no_post more x m j from to at' =
    let here : x ≡ d.position = omega (arith, from, to, more) in
    no_post m j (sym is ∙ ap (at (program l.plan l.party l.session)) (sym here) ∙ at')

-- a linear gate that comes next is that of the desk's slot
pub linear_begins : (plan : Plan) (l : Given) (d : Desk) (goes : IsDeskOfPlan plan l d) (k : ℕ) → instruction_at l d ≡ Linear k → (k ≡ d.place.slot) × IsSlot l.plan l.session d.place.slot Multiplies
linear_begins plan l d goes k is =
    let ne : instruction_at l d ≢ End = λ z. let both : Linear k ≡ End = sym is ∙ z in cc in
    let its = linear_here l d goes.desk ne k is in
    let proper : Proper l.plan l.session (Linear k) = subst (λ z. Proper l.plan z (Linear k)) goes.desk.session (subst (Proper l.plan d.session) is (proper_own l d goes.desk)) in
    (its, subst (λ z. IsSlot l.plan l.session z Multiplies) its (record { kind = gate_multiplies (slot l.plan l.session k) proper.kind; slot = proper.slot }))

-- an instruction that is no post, and what comes after it
pub first_computes : (l : Given) (d e f : Desk) (i : Instruction) → instruction_at l d ≡ i → ((m j : ℕ) → i ≢ Post m j) → e.position ≡ d.position + 1 → Computes l e f → Computes l d f
first_computes l d e f i is no_post more w = silent_computes l d e f (one_silent l d e i is no_post more) (omega (arith, more)) w
