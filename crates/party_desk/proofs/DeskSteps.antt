-- A step keeps a desk where its program leaves it.
use Rattle.std.proofs.Common.{◌≡◌, ℕ, suc, ◌+◌, ◌-◌, ◌*◌, ◌%◌, ◌<◌, Bool, true, false, not, ◌&&◌, nat_eq, if◌then◌else◌, length, drop, refl, sym, ap, ap₂, ◌∙◌, subst, arith}
use Rattle.std.specs.Prelude.{slice_index}
use Rattle.std.proofs.lemmas.List.{get_or-drop, drop-drop}
use Rattle.std.proofs.lemmas.Bool.{cases_eq, cond-false, false≢true}
use Rattle.std.specs.List.{list_any}
use mathlib.Core.Logic.{inl, inr}
use Rattle.circuit_model.specs.Circuits.{set_at, is_product}
use Rattle.secret_sharing.specs.Schemes.{Scheme, own_product}
use Rattle.session_slots.specs.Sessions.{Session, Slot, gate, is_prepared, mask_wire, product_in}
use Rattle.session_slots.specs.declared.side.Side.TheVariants.{First, Second}
use Rattle.plan_model.specs.Plans.{Plan, least_held, session, slot}
use Rattle.session_slots.specs.Sessions.Slot.{Input, At_gate, Output, Mask, Mask_product, Masked, Kept}
use Rattle.session_slots.specs.KeptWires.{IsInOrder, reads_in}
use Rattle.circuit_model.specs.Netlists.{read_by}
use Rattle.plan_model.specs.Sound.{IsSound}
use Rattle.plan_model.proofs.PlanSchemes.{plan_is}
use Rattle.std.specs.Arc.{arc_value}
use Rattle.job_session.specs.declared.row_table.RowTable.{RowTable}
use Rattle.list_laws.proofs.Totals.{total_eq}
use Rattle.program_model.specs.declared.instruction.Instruction.{Instruction}
use Rattle.program_model.specs.declared.instruction.Instruction.TheVariants.{Draw, Deal, Post, Take, Linear, Own, Sum, Open, Join, Deliver, End}
use Rattle.party_desk.specs.declared.desk.Desk.{Desk}
use Rattle.program_model.specs.Programs.{program, at}
use Rattle.program_laws.specs.WordsRead.{gate_at, IsToRead, KeepsRowsApart, Reads}
use Rattle.program_laws.proofs.GateReads.{product_reads}
use Rattle.program_laws.proofs.ProgramParts.{Multiplied, fits}
use Rattle.program_laws.proofs.SetWords.{own_row, read_is_held, reads_are_set}
use Rattle.share_world.proofs.Settled.{is_first, is_second}
use Rattle.row_steps.specs.Rows.{row, SameRow}
use Rattle.party_program.specs.ProgramPlaces.{IsPlace, IsProgram}
use Rattle.program_model.specs.States.{Given, State, taking_slot, state, next, word_after, dealt_in, drawn_in, joined_in, opened_in, took_in}
use Rattle.party_desk.specs.declared.memory.Memory.{Memory}
use Rattle.party_desk.specs.Memories.{state_of, row_of, on_wires, Alike, IsMemoryOf}
use Rattle.party_desk.specs.Desks.{Advanced, IsDesk, Remembers, after_on_rows, instruction_at, posts_in, takes_in, posts_before, takes_before}
use Rattle.party_desk.proofs.RememberedWords.{SameRead, goes_on}
use Rattle.party_desk.proofs.StateSteps.{IsWordOf, ReadsByGate}
use Rattle.program_model.specs.Proper.{Deals, IsMask, Proper, IsGivenWord, drawn_by}
use Rattle.circuit_model.proofs.SetAt.{set_here, set_there}

pub set_row_same : {A : Type 0} (P : ℕ → Type 0) (f g : ℕ → A) (v : ℕ) (x y : A) → ((u : ℕ) → P u → f u ≡ g u) → x ≡ y → (u : ℕ) → P u → set_at f v x u ≡ set_at g v y u
set_row_same P f g v x y same e u h = elim (cases_eq u v) [
  | inl eq ↦ set_here f v u x eq ∙ e ∙ sym (set_here g v u y eq)
  | inr ne ↦ set_there f v u x ne ∙ same u h ∙ sym (set_there g v u y ne)
]

pub own_eq : (s : Scheme) (p : ℕ) (x y a b : ℕ → ℕ) → SameRow s.shares x a → SameRow s.shares y b → own_product s p x y ≡ own_product s p a b
own_eq s p x y a b h k =
    ap (λ z. z % s.modulus) (total_eq s.shares _ _ (λ i li. total_eq s.shares _ _ (λ j lj. ap₂ (λ u v. if nat_eq (s.duty i j) p then u * v else 0) (h i li) (k j lj))))

-- what an instruction draws

module _ (l : Given) where
  words_drawn : (z : Slot) (words : ℕ → ℕ) (σ : State) → IsMask z → (drawn_in l.plan l.party l.session words z σ).drawn ≡ σ.drawn + least_held l.plan l.party (length l.plan.groups)
  words_drawn (Mask t side) words σ h = refl
  words_drawn (Input v) words σ h = absurd h
  words_drawn (At_gate t) words σ h = absurd h
  words_drawn (Output o) words σ h = absurd h
  words_drawn (Mask_product t) words σ h = absurd h
  words_drawn (Masked t side) words σ h = absurd h
  words_drawn (Kept place) words σ h = absurd h

  words_dealt : (z : Slot) (words : ℕ → ℕ) (input : ℕ) (σ : State) → Deals z → (dealt_in l.plan l.session words input z σ).drawn ≡ σ.drawn + (length l.plan.groups - 1)
  words_dealt (Input v) words input σ h = refl
  words_dealt (At_gate t) words input σ h = refl
  words_dealt (Mask_product t) words input σ h = refl
  words_dealt (Output o) words input σ h = absurd h
  words_dealt (Mask t side) words input σ h = absurd h
  words_dealt (Masked t side) words input σ h = absurd h
  words_dealt (Kept place) words input σ h = absurd h

  none_taken : (z : Slot) (i w : ℕ) (σ : State) → (took_in l.plan l.session z i w σ).drawn ≡ σ.drawn
  none_taken (Input v) i w σ = refl
  none_taken (At_gate t) i w σ = refl
  none_taken (Output o) i w σ = refl
  none_taken (Mask t side) i w σ = refl
  none_taken (Mask_product t) i w σ = refl
  none_taken (Masked t side) i w σ = refl
  none_taken (Kept place) i w σ = refl

  none_opened : (z : Slot) (σ : State) → (opened_in l.plan l.party l.session z σ).drawn ≡ σ.drawn
  none_opened (Masked t side) σ = refl
  none_opened (Input v) σ = refl
  none_opened (At_gate t) σ = refl
  none_opened (Output o) σ = refl
  none_opened (Mask t side) σ = refl
  none_opened (Mask_product t) σ = refl
  none_opened (Kept place) σ = refl

  none_joined : (z : Slot) (σ : State) → (joined_in l.plan l.session z σ).drawn ≡ σ.drawn
  none_joined (At_gate t) σ = refl
  none_joined (Input v) σ = refl
  none_joined (Output o) σ = refl
  none_joined (Mask t side) σ = refl
  none_joined (Mask_product t) σ = refl
  none_joined (Masked t side) σ = refl
  none_joined (Kept place) σ = refl

  pub draws : (e : Instruction) (σ : State) → Proper l.plan l.session e → (next l e σ).drawn ≡ σ.drawn + drawn_by l.plan l.party e
  draws (Draw k) σ h = words_drawn (slot l.plan l.session k) (word_after l σ.drawn) σ h.kind
  draws (Deal k d) σ h = words_dealt (slot l.plan l.session k) (word_after l σ.drawn) (slice_index l.inputs σ.given) σ h.kind
  draws (Post n i) σ h = omega arith
  draws (Take n i) σ h = none_taken (taking_slot l.plan n) i (l.got n) σ ∙ omega arith
  draws (Linear k) σ h = omega arith
  draws (Own k) σ h = omega arith
  draws (Sum k) σ h = omega arith
  draws (Open k) σ h = none_opened (slot l.plan l.session k) σ ∙ omega arith
  draws (Join k) σ h = none_joined (slot l.plan l.session k) σ ∙ omega arith
  draws (Deliver k) σ h = omega arith
  draws End σ h = omega arith

-- ---- the slot of an instruction reads what its gate does

unless_product : (prepared product : Bool) → product ≡ false → (prepared && product) ≡ false
unless_product true product e = e
unless_product false product e = refl

unless_direct : (prepared product : Bool) → (not prepared && product) ≡ true → (product ≡ true) × ((prepared && product) ≡ false)
unless_direct true product e = absurd (false≢true e)
unless_direct false product e = (e, refl)

module _ (plan : Plan) (s k : ℕ) where
  abbrev x : Session
  x = session plan s

  -- a gate that isn't prepared reads its wires
  gate_reads : (t : ℕ) → slot plan s k ≡ At_gate t → is_prepared x t ≡ false → (v : ℕ) → list_any (nat_eq v) (read_by (gate_at plan s k)) ≡ true → Reads plan s k v
  gate_reads t is unprepared v h =
      ap (λ z. list_any (nat_eq v) (reads_in x z)) is ∙ ap (list_any (nat_eq v)) (cond-false (is_prepared x t) _ (read_by (gate x t)) unprepared)
      ∙ sym (ap (λ z. list_any (nat_eq v) (read_by (product_in x z))) is) ∙ h

  own_reads : (z : Slot) → slot plan s k ≡ z → Multiplied x z → Reads plan s k (gate_at plan s k).first × Reads plan s k (gate_at plan s k).second
  own_reads (At_gate t) is direct =
      let its = unless_direct x.prepared (is_product (gate x t).operation) direct in
      let product : is_product (gate_at plan s k).operation ≡ true = ap (λ z. is_product (product_in x z).operation) is ∙ its.0 in
      let both = product_reads (gate_at plan s k) product in
      (gate_reads t is its.1 _ both.0, gate_reads t is its.1 _ both.1)
  own_reads (Mask_product t) is h =
      let a : ℕ = mask_wire x t First in
      let b : ℕ = mask_wire x t Second in (
        ap₂ (λ v z. list_any (nat_eq v) (reads_in x z)) (ap (λ z. (product_in x z).first) is) is ∙ is_first a b,
        ap₂ (λ v z. list_any (nat_eq v) (reads_in x z)) (ap (λ z. (product_in x z).second) is) is ∙ is_second a b,
      )
  own_reads (Input v) is h = absurd h
  own_reads (Output o) is h = absurd h
  own_reads (Mask t side) is h = absurd h
  own_reads (Masked t side) is h = absurd h
  own_reads (Kept place) is h = absurd h

module _ (plan : Plan) (sound : IsSound plan) (s p : ℕ) (ls : s < length plan.sessions) (q : ℕ) where
  reads_of : (e : Instruction) → at (program plan p s) q ≡ e → ReadsByGate plan s p e
  reads_of (Linear k) is =
      let it = fits plan sound s p ls q (Linear k) is (λ e. cc) in
      gate_reads plan s k it.1.0 it.1.1 (unless_product (session plan s).prepared (is_product (gate (session plan s) it.1.0).operation) it.1.2)
  reads_of (Own k) is = own_reads plan s k (slot plan s k) refl (fits plan sound s p ls q (Own k) is (λ e. cc)).1
  reads_of (Join k) is = (fits plan sound s p ls q (Join k) is (λ e. cc)).1
  reads_of (Draw k) is = tt
  reads_of (Deal k d) is = tt
  reads_of (Post n i) is = tt
  reads_of (Take n i) is = tt
  reads_of (Sum k) is = tt
  reads_of (Open k) is = tt
  reads_of (Deliver k) is = tt
  reads_of End is = tt

-- what is remembered is the same in what is set and still to be read
same_read : (l : Given) (q : ℕ) (d : Memory) (σ : State) → Remembers l q d σ → SameRead l.plan l.session l.party q (on_wires (row_of d) (state_of (length l.plan.groups) d)) σ
same_read l q d σ h = record { rows = h.rows; parts = record { own = h.own; sums = h.sums; excess = h.excess; given = h.given; outputs = h.outputs } }

word_right : (l : Given) (w : ℕ) (e : Instruction) → IsGivenWord l w e → IsWordOf l.got w e
word_right l w (Draw k) h = tt
word_right l w (Deal k d) h = tt
word_right l w (Post n i) h = tt
word_right l w (Take n i) h = h
word_right l w (Linear k) h = tt
word_right l w (Own k) h = tt
word_right l w (Sum k) h = tt
word_right l w (Open k) h = tt
word_right l w (Join k) h = tt
word_right l w (Deliver k) h = tt
word_right l w End h = tt

module _ (l : Given) (d e : Desk) (w : ℕ) (h : IsDesk l d) (proper : Proper l.plan l.session (instruction_at l d)) (inside : d.position < length (program l.plan l.party l.session)) (given : IsGivenWord l w (instruction_at l d)) (a : Advanced l.plan w (instruction_at l d) d e) where
  abbrev m : ℕ
  m = length l.plan.groups

  abbrev q : ℕ
  q = d.position

  abbrev i : Instruction
  i = instruction_at l d

  abbrev σ : State
  σ = state l q

  abbrev after_rows : ℕ → ℕ → (ℕ → ℕ) → ℕ → State
  after_rows p s words input = after_on_rows (row_of d.memory) l.plan p s words input w i (state_of m d.memory)

  more : e.position ≡ suc q
  more = a.position ∙ omega arith

  words : slice_index d.memory.tape ≡ word_after l σ.drawn
  words = ap slice_index h.tape ∙ (λ z j. get_or-drop σ.drawn l.tape j 0 z)

  input : slice_index d.memory.inputs.items d.memory.given ≡ slice_index l.inputs σ.given
  input = ap₂ slice_index h.inputs h.memory.given

  reads : after_rows d.party d.session (slice_index d.memory.tape) (slice_index d.memory.inputs.items d.memory.given) ≡ after_rows l.party l.session (word_after l σ.drawn) (slice_index l.inputs σ.given)
  reads = λ z. after_rows (h.party z) (h.session z) (words z) (input z)

  alike : Alike m (state_of m e.memory) (after_rows l.party l.session (word_after l σ.drawn) (slice_index l.inputs σ.given))
  alike = subst (Alike m (state_of m e.memory)) reads a.state

  order : IsInOrder (session l.plan l.session)
  order = (h.suits.sound.sessions l.session h.suits.session).wired.order

  apart : KeepsRowsApart l.plan l.party l.session (arc_value d.memory.table).rows.items
  apart q v u j k now was later ne =
      let next : q + 1 ≡ suc q = omega arith in
      own_row l.plan h.suits.sound l.session l.party h.suits.session h.suits.party order (arc_value d.memory.table).rows.items h.fits.table.0 q v u j k now was (subst (λ z. IsToRead l.plan l.party l.session z v j) next later) ne

  same : SameRead l.plan l.session l.party (suc q) (on_wires (row_of d.memory) (after_rows l.party l.session (word_after l σ.drawn) (slice_index l.inputs σ.given))) (next l i σ)
  same = goes_on l.plan l.session l.party (plan_is l.plan h.suits.sound) (arc_value d.memory.table).rows.items
      (λ q v j lj reads. reads_are_set l.plan h.suits.sound l.session l.party h.suits.session h.suits.party order q v j lj reads) apart
      q (state_of m d.memory) σ (same_read l q d.memory σ h.memory) (word_after l σ.drawn) (slice_index l.inputs σ.given) w l.got proper
      (reads_of l.plan h.suits.sound l.session l.party h.suits.session q i refl)
      (λ done v j sets later. read_is_held l.plan h.suits.sound l.session l.party h.suits.session h.suits.party order q v j done sets later)
      (word_right l w i given)

  rows_stay : row_of e.memory ≡ row_of d.memory
  rows_stay = ap (λ z. slice_index (arc_value {X = RowTable} z).rows.items) a.table

  remembers : Remembers l (suc q) e.memory (next l i σ)
  remembers = record {
    rows = λ v j lj was later. ap (λ z. row m e.memory.rows.items (z v) j) rows_stay ∙ alike.rows (row_of d.memory v) j lj ∙ same.rows v j lj was later;
    own = alike.own ∙ same.parts.own;
    sums = λ j lj. alike.sums j lj ∙ same.parts.sums j lj;
    excess = λ side. alike.excess side ∙ same.parts.excess side;
    given = alike.given ∙ same.parts.given;
    outputs = λ o. alike.outputs o ∙ same.parts.outputs o;
  }

  pub kept : IsDesk l e
  kept = record {
    suits = h.suits;
    party = a.party ∙ h.party;
    session = a.session ∙ h.session;
    own_program = subst (IsProgram l.plan l.party l.session) (sym a.program) h.own_program;
    instructions = a.instructions ∙ h.instructions;
    place = subst (λ z. IsPlace l.plan z l.session e.place e.position) h.party (subst (λ z. IsPlace l.plan d.party z e.place e.position) h.session a.place);
    position = omega (arith, more, inside);
    sent = a.sent ∙ ap (λ x. x + posts_in i) h.sent ∙ ap (posts_before (program l.plan l.party l.session)) (sym more);
    taken = a.taken ∙ ap (λ x. x + takes_in i) h.taken ∙ ap (takes_before (program l.plan l.party l.session)) (sym more);
    fits = subst (λ z. IsMemoryOf l.plan z e.memory) h.session a.fits;
    inputs = ap (λ z. z.items) a.inputs ∙ h.inputs;
    piece = a.piece ∙ h.piece;
    tape = a.tape ∙ ap (λ z. drop (drawn_by l.plan z i) d.memory.tape) h.party ∙ ap (drop (drawn_by l.plan l.party i)) h.tape ∙ drop-drop (drawn_by l.plan l.party i) σ.drawn l.tape ∙ ap (λ z. drop z l.tape) (sym (draws l i σ proper)) ∙ ap (λ z. drop (state l z).drawn l.tape) (sym more);
    memory = subst (λ z. Remembers l z e.memory (state l z)) (sym more) remembers;
  }
