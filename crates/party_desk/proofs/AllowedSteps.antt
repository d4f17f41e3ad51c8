-- What a step may rest on, and what it leaves, for what the desk goes by.
use Rattle.std.proofs.Common.{◌≡◌, ℕ, zero, suc, ◌-◌, ◌<◌, ◌≤◌, ◌^◌, ◌≢◌, List, length, drop, refl, sym, ap, ap₂, ◌∙◌, subst, arith}
use Rattle.std.proofs.lemmas.List.{length-drop, get_or_past}
use Rattle.std.proofs.lemmas.Bool.{cases_lt}
use mathlib.Core.Logic.{inl, inr}
use Rattle.mpc_ring.specs.Differences.{difference}
use Rattle.circuit_model.specs.Circuits.{set_at}
use Rattle.circuit_model.proofs.SetAt.{set_here, set_there}
use Rattle.session_slots.specs.Sessions.{Slot, gate, kept_wire, operand, output_wire, mask_wire, product_wire}
use Rattle.session_slots.specs.EarlyWires.{is_join}
use Rattle.plan_model.specs.Plans.{Plan, least_held, session, slot}
use Rattle.session_slots.specs.Sessions.Slot.{Input, At_gate, Output, Mask, Mask_product, Masked, Kept}
use Rattle.message_board.specs.declared.cells.Cells.{Ghosts as Meaning}
use Rattle.program_model.specs.declared.instruction.Instruction.{Instruction}
use Rattle.program_model.specs.declared.instruction.Instruction.TheVariants.{Draw, Deal, Post, Take, Linear, Own, Sum, Open, Join, Deliver, End}
use Rattle.program_model.specs.Programs.{program, at}
use Rattle.program_model.specs.States.{Given, State, slot_of, posted, state}
use Rattle.program_model.specs.Proper.{Proper, IsGivenWord, HasInput, with_got}
use Rattle.program_model.specs.GivenData.{Suits}
use Rattle.party_program.specs.declared.place.Place.{Place}
use Rattle.party_program.specs.ProgramPlaces.{IsPlace, IsProgram}
use Rattle.party_program.proofs.ProgramPlaces.{ends_there}
use Rattle.program_model.proofs.StateReads.{state_same}
use Rattle.program_laws.specs.WordsRead.{Carries, ReadsSummand}
use Rattle.program_laws.proofs.SetWords.{reads_are_set}
use Rattle.party_desk.specs.declared.memory.Memory.{Memory}
use Rattle.plan_model.proofs.PlanSchemes.{plan_is}
use Rattle.program_model.proofs.DifferentTakes.{takes_differ}
use Rattle.program_laws.proofs.Lengths.{program_is_short}
use Rattle.program_laws.proofs.ProgramParts.{fits}
use Rattle.program_laws.proofs.ProperPrograms.{is_proper, can_deal, can_draw}
use Rattle.party_desk.specs.declared.desk.Desk.{Desk}
use Rattle.party_desk.specs.declared.desk.Stepped.{Stepped}
use Rattle.party_desk.specs.declared.desk.Stepped.TheVariants.{Moved, NotYet, Ended}
use Rattle.party_desk.specs.Memories.{state_of, row_of, on_wires, IsMemoryOf, CanDeal, FindsInput}
use Rattle.party_desk.specs.Desks.{posts_in, takes_in, posts_before, takes_before, Stands, Allowed, Advanced, Effect, Did, HasLeft, IsDesk, JoinsPrepared, NamesSlot, Remembers, instruction_at, word_in_memory}
use Rattle.party_desk.specs.Steps.{word_at, with_word, Allows, MayStep, Does, Steps}
use Rattle.party_desk.proofs.DeskSteps.{kept}
use Rattle.party_desk.proofs.NamedSlots.{names_slot}

-- at most one message for each instruction
one_post : (e : Instruction) → posts_in e ≤ 1
one_post (Post n i) = omega arith
one_post (Deal k d) = omega arith
one_post (Draw k) = omega arith
one_post (Take n i) = omega arith
one_post (Linear k) = omega arith
one_post (Own k) = omega arith
one_post (Sum k) = omega arith
one_post (Open k) = omega arith
one_post (Join k) = omega arith
one_post (Deliver k) = omega arith
one_post End = omega arith

one_take : (e : Instruction) → takes_in e ≤ 1
one_take (Take n i) = omega arith
one_take (Deal k d) = omega arith
one_take (Draw k) = omega arith
one_take (Post n i) = omega arith
one_take (Linear k) = omega arith
one_take (Own k) = omega arith
one_take (Sum k) = omega arith
one_take (Open k) = omega arith
one_take (Join k) = omega arith
one_take (Deliver k) = omega arith
one_take End = omega arith

posts_few : (es : List Instruction) (q : ℕ) → posts_before es q ≤ q
posts_few es zero = omega arith
posts_few es (suc q) = let a = posts_few es q in let b = one_post (at es q) in omega arith

takes_few : (es : List Instruction) (q : ℕ) → takes_before es q ≤ q
takes_few es zero = omega arith
takes_few es (suc q) = let a = takes_few es q in let b = one_take (at es q) in omega arith

-- a place with instructions left has one for each but the end
some_left : (e : Instruction) (place : Place) → place.done < place.count → HasLeft e place
some_left (Deal k d) place left = left
some_left (Draw k) place left = left
some_left (Post n i) place left = left
some_left (Take n i) place left = left
some_left (Linear k) place left = left
some_left (Own k) place left = left
some_left (Sum k) place left = left
some_left (Open k) place left = left
some_left (Join k) place left = left
some_left (Deliver k) place left = left
some_left End place left = tt

-- the word that is posted, from the memory
posted_same : (plan : Plan) (s : ℕ) (z : Slot) (i : ℕ) (a b : State) → ((v : ℕ) → Carries (session plan s) z v → a.rows v i ≡ b.rows v i) → posted plan s z i a ≡ posted plan s z i b
posted_same plan s (Input v) i a b rows = rows v refl
posted_same plan s (At_gate t) i a b rows = rows (gate (session plan s) t).output refl
posted_same plan s (Output o) i a b rows = rows (output_wire (session plan s) o) refl
posted_same plan s (Mask t side) i a b rows = rows (mask_wire (session plan s) t side) refl
posted_same plan s (Mask_product t) i a b rows = rows (product_wire (session plan s) t) refl
posted_same plan s (Masked t side) i a b rows =
    ap₂ (difference (2 ^ plan.bits)) (rows (operand (gate (session plan s) t) side) (inl refl)) (rows (mask_wire (session plan s) t side) (inr refl))
posted_same plan s (Kept place) i a b rows = rows (kept_wire (session plan s) place) refl

remembers : (l : Given) (got : ℕ → ℕ) (q : ℕ) (d : Memory) (σ τ : State) → σ ≡ τ → Remembers l q d σ → Remembers (with_got l got) q d τ
remembers l got q d σ τ e h = subst (Remembers (with_got l got) q d) e (record { rows = h.rows; own = h.own; sums = h.sums; excess = h.excess; given = h.given; outputs = h.outputs })

-- a desk goes by other words as well, where those of the takes before are the same
pub goes_by : (l : Given) (got : ℕ → ℕ) (d : Desk) → IsDesk l d → ((p n i : ℕ) → p < d.position → at (program l.plan l.party l.session) p ≡ Take n i → l.got n ≡ got n) → IsDesk (with_got l got) d
goes_by l got d h same =
    let e : state l d.position ≡ state (with_got l got) d.position = state_same l got d.position same in
    record {
      suits = record { sound = h.suits.sound; party = h.suits.party; session = h.suits.session; inputs = h.suits.inputs; tape = h.suits.tape };
      party = h.party;
      session = h.session;
      own_program = h.own_program;
      instructions = h.instructions;
      place = h.place;
      position = h.position;
      sent = h.sent;
      taken = h.taken;
      fits = h.fits;
      inputs = h.inputs;
      piece = h.piece;
      tape = h.tape ∙ ap (λ (σ : State). drop σ.drawn l.tape) e;
      memory = remembers l got d.position d.memory (state l d.position) (state (with_got l got) d.position) e h.memory;
    }

module _ (l : Given) (d : Desk) (is_desk : IsDesk l d) where
  suits : Suits l
  suits = is_desk.suits

  abbrev plan : Plan
  plan = l.plan

  abbrev i : Instruction
  i = instruction_at l d

  pub proper : Proper l.plan l.session i
  proper = is_proper l suits d.position

  pub proper_own : Proper l.plan d.session i
  proper_own = subst (λ z. Proper l.plan z i) (sym is_desk.session) proper

  pub stands : Stands l.plan d
  stands = record {
    sound = suits.sound;
    session = subst (λ z. z < length l.plan.sessions) (sym is_desk.session) suits.session;
    party = subst (λ z. z < l.plan.parties) (sym is_desk.party) suits.party;
    own_program = subst (λ z. IsProgram l.plan z d.session d.program) (sym is_desk.party) (subst (λ z. IsProgram l.plan l.party z d.program) (sym is_desk.session) is_desk.own_program);
    place = subst (λ z. IsPlace l.plan z d.session d.place d.position) (sym is_desk.party) (subst (λ z. IsPlace l.plan l.party z d.place d.position) (sym is_desk.session) is_desk.place);
    position = (let a : d.position ≤ length (program l.plan l.party l.session) = is_desk.position in let b : length (program l.plan l.party l.session) < 4294967295 = program_is_short l.plan suits.sound l.party l.session in omega arith);
    sent = (let a : d.sent ≡ posts_before (program l.plan l.party l.session) d.position = is_desk.sent in let b = posts_few (program l.plan l.party l.session) d.position in omega arith);
    taken = (let a : d.taken ≡ takes_before (program l.plan l.party l.session) d.position = is_desk.taken in let b = takes_few (program l.plan l.party l.session) d.position in omega arith);
    fits = subst (λ z. IsMemoryOf l.plan z d.memory) (sym is_desk.session) is_desk.fits;
  }

  joined_there : (e : Instruction) → i ≡ e → JoinsPrepared l.plan l.session e
  joined_there (Join k) is =
      let it = (fits l.plan suits.sound l.session l.party suits.session d.position (Join k) is (λ e. cc)).1 in
      ap (is_join (session l.plan l.session)) it.1 ∙ it.2
  joined_there (Draw k) is = tt
  joined_there (Deal k j) is = tt
  joined_there (Post n j) is = tt
  joined_there (Take n j) is = tt
  joined_there (Linear k) is = tt
  joined_there (Own k) is = tt
  joined_there (Sum k) is = tt
  joined_there (Open k) is = tt
  joined_there (Deliver k) is = tt
  joined_there End is = tt

  pub joined_own : JoinsPrepared l.plan d.session i
  joined_own = subst (λ z. JoinsPrepared l.plan z i) (sym is_desk.session) (joined_there i refl)

  pub names_own : NamesSlot l.plan l.session i d.place.slot
  names_own = names_slot l.plan suits.sound l.session l.party suits.session d.place d.position is_desk.place

  -- ---- the memory allows what the cells allow

  finds : (z : Slot) → HasInput l z (state l d.position).given → FindsInput d.memory z
  finds (Input v) f =
      let a : length d.memory.inputs.items ≡ length l.inputs = ap length is_desk.inputs in
      let b : d.memory.given ≡ (state l d.position).given = is_desk.memory.given in
      let inside = f.0 in let few = f.1 in (omega arith, omega arith)
  finds (At_gate t) f = tt
  finds (Mask_product t) f = tt
  finds (Output o) f = f
  finds (Mask t side) f = f
  finds (Masked t side) f = f
  finds (Kept place) f = f

  tape_left : length d.memory.tape ≡ length l.tape - (state l d.position).drawn
  tape_left = ap length is_desk.tape ∙ length-drop (state l d.position).drawn l.tape

  pub deals : (k j : ℕ) → i ≡ Deal k j → CanDeal l.plan (slot l.plan l.session k) d.memory
  deals k j e =
      let c = can_deal l suits d.position k j e in
      let a = tape_left in
      record { words = (let f = c.words in omega arith); input = finds (slot l.plan l.session k) c.input }

  draws_right : (k : ℕ) → i ≡ Draw k → least_held l.plan d.party (length l.plan.groups) ≤ length d.memory.tape
  draws_right k e =
      let c = can_draw l suits d.position k e in
      let a = tape_left in
      subst (λ z. least_held l.plan z (length l.plan.groups) ≤ length d.memory.tape) (sym is_desk.party) (omega (arith, a, c))

  pub posts_right : (n j : ℕ) → i ≡ Post n j → word_in_memory l.plan d n j ≡ word_at l d.position n j
  posts_right n j e =
      let share : j < length l.plan.groups = (subst (Proper l.plan l.session) e proper).share in
      let order = (suits.sound.sessions l.session suits.session).wired.order in
      let reads : (v : ℕ) → Carries (session l.plan l.session) (slot_of l.plan n) v → ReadsSummand l.plan l.party l.session i v j = λ v c. subst (λ y. ReadsSummand l.plan l.party l.session y v j) (sym e) (c, refl) in
      let here : State = on_wires (row_of d.memory) (state_of (length l.plan.groups) d.memory) in
      ap (λ z. posted l.plan z (slot_of l.plan n) j here) is_desk.session
      ∙ posted_same l.plan l.session (slot_of l.plan n) j here (state l d.position)
      (λ v c. is_desk.memory.rows v j share (reads_are_set l.plan suits.sound l.session l.party suits.session suits.party order d.position v j share (reads v c)) (d.position, omega arith, reads v c))

  -- ---- what an instruction leaves
  within : i ≢ End → d.position < length (program l.plan l.party l.session)
  within ne = elim (cases_lt d.position (length (program l.plan l.party l.session))) [
    | inl b ↦ b
    | inr past ↦ absurd (ne (get_or_past (program l.plan l.party l.session) d.position End past))
  ]

  -- an instruction that takes what is given leaves what the desk goes by
  pub stays : (e : Desk) (w : ℕ) (j : Instruction) → i ≡ j → j ≢ End → IsGivenWord l w j → Advanced l.plan w j d e → IsDesk l e
  stays e w j is ne given a = kept l d e w is_desk proper (within (λ z. ne (sym is ∙ z))) (subst (IsGivenWord l w) (sym is) given) (subst (λ z. Advanced l.plan w z d e) (sym is) a)

  module _ {C : Type 0} (cells : Meaning C) (c : C) where
    allowed_at : (e : Instruction) → i ≡ e → Allows cells c l d.position e → Allowed cells c l.plan d e
    allowed_at (Deal k j) e a = subst (λ z. CanDeal l.plan (slot l.plan z k) d.memory) (sym is_desk.session) (deals k j e)
    allowed_at (Draw k) e a = draws_right k e
    allowed_at (Post n j) e a = subst (cells.may_post c n) (sym (posts_right n j e)) a
    allowed_at (Take n j) e a = a
    allowed_at (Linear k) e a = tt
    allowed_at (Own k) e a = tt
    allowed_at (Sum k) e a = tt
    allowed_at (Open k) e a = tt
    allowed_at (Join k) e a = tt
    allowed_at (Deliver k) e a = tt
    allowed_at End e a = tt

    pub allowed : Allows cells c l d.position i → Allowed cells c l.plan d i
    allowed = allowed_at i refl

    -- ---- what a step leaves

    module _ (e : Desk) (f : C) where
      hears : (w n j : ℕ) → i ≡ Take n j → Advanced l.plan w (Take n j) d e → IsDesk (with_word l n w) e
      hears w n j is a =
          let more : Given = with_word l n w in
          let before : IsDesk (with_word l n w) d = goes_by l (set_at l.got n w) d is_desk (λ p m k less e.
          sym (set_there l.got n m w (takes_differ l.plan l.session l.party p d.position m k n j (plan_is l.plan suits.sound) less e is))) in
          kept (with_word l n w) d e w before proper (within (λ z. let both : Take n j ≡ End = sym is ∙ z in cc)) (subst (IsGivenWord (with_word l n w) w) (sym is) (sym (set_here l.got n n w refl))) (subst (λ z. Advanced l.plan w z d e) (sym is) a)

      does : (w : ℕ) (j : Instruction) → i ≡ j → Advanced l.plan w j d e → Effect cells l.plan d w c f j → Does cells l d c e f j
      does w (Deal k n) is a x = (x, stays e w (Deal k n) is (λ z. cc) tt a)
      does w (Draw k) is a x = (x, stays e w (Draw k) is (λ z. cc) tt a)
      does w (Post n k) is a x = ((x.0, subst (λ z. cells.put c n z x.0 f) (posts_right n k is) x.1), stays e w (Post n k) is (λ z. cc) tt a)
      does w (Take n k) is a x = (w, x.0, x.1, hears w n k is a)
      does w (Linear k) is a x = (x, stays e w (Linear k) is (λ z. cc) tt a)
      does w (Own k) is a x = (x, stays e w (Own k) is (λ z. cc) tt a)
      does w (Sum k) is a x = (x, stays e w (Sum k) is (λ z. cc) tt a)
      does w (Open k) is a x = (x, stays e w (Open k) is (λ z. cc) tt a)
      does w (Join k) is a x = (x, stays e w (Join k) is (λ z. cc) tt a)
      does w (Deliver k) is a x = (x, stays e w (Deliver k) is (λ z. cc) tt a)
      does w End is a x = x

      pub steps : (r : Stepped) → Did cells l.plan d c e f i r → Steps cells l d c e f i r
      steps Moved x = (x.1.position, does x.0 i refl x.1 x.2)
      steps (NotYet m) x = x
      steps Ended x = x

-- ---- the same of a desk that may step

module _ {C : Type 0} (cells : Meaning C) (plan : Plan) (c : C) (l : Given) (d : Desk) (may : MayStep cells plan c l d) where
  pub may_stand : Stands plan d
  may_stand = subst (λ z. Stands z d) may.same (stands l d may.desk)

  -- the program's own instruction at this position
  own : (j : Instruction) → j ≡ at (program plan d.program.party d.program.session) d.position → j ≡ instruction_at l d
  own j e = e ∙ (λ z. at (program (sym may.same z) (may.desk.own_program.of_party z) (may.desk.own_program.of_session z)) d.position)

  pub may_proper : (j : Instruction) → j ≡ at (program plan d.program.party d.program.session) d.position → Proper plan d.session j
  may_proper j e = subst (λ z. Proper z d.session j) may.same (subst (Proper l.plan d.session) (sym (own j e)) (proper_own l d may.desk))

  pub may_join : (j : Instruction) → j ≡ at (program plan d.program.party d.program.session) d.position → JoinsPrepared plan d.session j
  may_join j e = subst (λ z. JoinsPrepared z d.session j) may.same (subst (JoinsPrepared l.plan d.session) (sym (own j e)) (joined_own l d may.desk))

  pub may_allow : (j : Instruction) → j ≡ at (program plan d.program.party d.program.session) d.position → Allowed cells c plan d j
  may_allow j e = subst (λ z. Allowed cells c z d j) may.same (subst (Allowed cells c l.plan d) (sym (own j e)) (allowed l d may.desk cells c may.allows))

  pub may_step : (j : Instruction) → j ≡ at (program plan d.program.party d.program.session) d.position → (e : Desk) (f : C) (r : Stepped) → Did cells plan d c e f j r → Steps cells l d c e f (instruction_at l d) r
  may_step j is e f r did = steps l d may.desk cells c e f r (subst (λ z. Did cells z d c e f (instruction_at l d) r) (sym may.same) (subst (λ z. Did cells plan d c e f z r) (own j is) did))

  -- the desk's program is that of its party in its session, and it stands in its slot
  pub may_program : IsProgram plan d.program.party d.program.session d.program
  may_program =
      let h = may_stand.own_program in
      subst (λ z. IsProgram plan z d.program.session d.program) (sym h.of_party) (subst (λ z. IsProgram plan d.party z d.program) (sym h.of_session) h)

  pub may_place : IsPlace plan d.program.party d.program.session d.place d.position
  may_place =
      let h = may_stand.own_program in
      subst (λ z. IsPlace plan z d.program.session d.place d.position) (sym h.of_party) (subst (λ z. IsPlace plan d.party z d.place d.position) (sym h.of_session) may_stand.place)

  pub may_here : (j : Instruction) → j ≡ at (program plan d.program.party d.program.session) d.position → NamesSlot plan d.session j d.place.slot
  may_here j e =
      subst (λ z. NamesSlot plan z j d.place.slot) (sym may.desk.session)
      (subst (λ z. NamesSlot z l.session j d.place.slot) may.same (subst (λ z. NamesSlot l.plan l.session z d.place.slot) (sym (own j e)) (names_own l d may.desk)))

  -- it has an instruction left there, unless that is the end
  pub may_left : (j : Instruction) → j ≡ at (program plan d.program.party d.program.session) d.position → HasLeft j d.place
  may_left j e = elim (cases_lt d.place.done d.place.count) [
    | inl left ↦ some_left j d.place left
    | inr past ↦
        subst (λ z. HasLeft z d.place) (sym (e ∙ ends_there plan d.program.party d.program.session d.place d.position may_place past)) tt
  ]
