-- Slot after slot, a party posts and delivers what it computes by itself.
use Rattle.std.proofs.Common.{◌≡◌, ◌≢◌, ℕ, zero, suc, ◌+◌, ◌<◌, ◌≤◌, Bool, true, false, not, ◌&&◌, nat_lt, if◌then◌else◌, List, [], ◌∷◌, length, refl, sym, ap, ◌∙◌, subst, arith}
use Rattle.std.specs.Prelude.{Some, nat_eq}
use Rattle.std.specs.List.{list_any}
use Rattle.std.proofs.lemmas.Bool.{cases_eq, cases_lt, cases_Bool, cond-true, cond-false, eq-eqb, ne_eqb, lt-ltb, le-ltb, both_ways, or_left}
use Rattle.std.proofs.lemmas.List.Elements.{All-get_or}
use mathlib.Core.Logic.{inl, inr}
use Rattle.list_laws.specs.Lists.{joined}
use Rattle.circuit_model.specs.Circuits.{is_product}
use Rattle.circuit_model.proofs.SetAt.{set_here, set_there}
use Rattle.secret_sharing.specs.Schemes.{Run, summands}
use Rattle.session_slots.specs.declared.side.Side.{Side}
use Rattle.session_slots.specs.declared.side.Side.TheVariants.{First, Second}
use Rattle.session_slots.specs.declared.source.Source.{Source}
use Rattle.session_slots.specs.declared.source.Source.TheVariants.{Given as GivenBy, Earlier}
use Rattle.session_slots.specs.declared.values.KeptWire.{KeptWire}
use Rattle.session_slots.specs.Sessions.{Session, Slot, given_by, owners, readers, source, gate, kept_wire, no_kept, output_wire, is_prepared, mask_wire, product_wire}
use Rattle.session_slots.specs.Sessions.Slot.{Input, At_gate, Output, Mask, Mask_product, Masked, Kept}
use Rattle.session_slots.specs.SlotNumbers.{first_input, first_of_gate}
use Rattle.session_slots.specs.KeptWires.{sets_in, slot_sets}
use Rattle.session_slots.specs.SoundSessions.{Inside, IsWired}
use Rattle.session_slots.proofs.SessionSlots.{masks_before_product, product_before_inputs, slot_kinds, slots_are_numbered}
use Rattle.plan_model.specs.Plans.{Plan, session, slot, slots, slot_number, is_holder, gives, given_before, opens_to}
use Rattle.plan_model.specs.declared.key.Key.{Key}
use Rattle.share_world.specs.Worlds.{World}
use Rattle.share_world.specs.Locals.{local_mask, local_mask_product, local_excess, local_run, local_output}
use Rattle.program_model.specs.declared.instruction.Instruction.{Instruction}
use Rattle.program_model.specs.Programs.{slot_program}
use Rattle.program_model.specs.States.{Given, State, new_state, after_all}
use Rattle.program_model.proofs.InstructionLists.{Leaves, leaves_append}
use Rattle.program_laws.specs.Meets.{local_given, Goes}
use Rattle.program_laws.proofs.CarriedSlots.{carried_input, kept_slot}
use Rattle.program_laws.proofs.DealtSlots.{own_input, other_input, mask_slot}
use Rattle.program_laws.proofs.OpenedSlots.{Showed, masked_wire, Delivered, output_slot}
use Rattle.program_laws.proofs.ProductSlots.{Doing, Has, made_at, direct_product, product_of_masks, linear_gate, joined_gate}
use Rattle.program_laws.proofs.SlotRuns.{Runs, Ready, ready_at, Rowed}

module _ (w : World) (got : Key → ℕ) (s p : ℕ) (h : Runs w s p) where
  abbrev plan : Plan
  plan = w.plan

  abbrev x : Session
  x = session w.plan s

  abbrev m : ℕ
  m = length w.plan.groups

  abbrev l : Given
  l = local_given w got s p

  abbrev run : Run
  run = local_run w got p s

  abbrev f : ℕ → List Instruction
  f = slot_program plan p s

  wired : IsWired x
  wired = (h.sound.sessions s h.session_there).wired

  -- ---- from the start up to a slot

  -- the programs of the first k slots leave this
  abbrev Up : ℕ → (State → Type 0) → Type 0
  Up k Q = Leaves (Goes w got s p) l (joined k f) Q new_state

  up_to : (j k : ℕ) (Q R : State → Type 0) → j ≡ k → Up j Q → ((σ : State) → Q σ → R σ) → Up k R
  up_to j k Q R e h g = subst (λ n. Up n R) e (h.0, g (after_all l (joined j f) new_state) h.1)

  go_on : (j k : ℕ) (Q R : State → Type 0) → j ≡ k → Up j Q → ((σ : State) → Q σ → Doing w got s p h k R σ) → Up (suc k) R
  go_on j k Q R e h g = leaves_append (Goes w got s p) l (joined k f) (f k) Q R new_state (subst (λ n. Up n Q) e h) g

  -- to what more is known
  doing : (k : ℕ) (Q R : State → Type 0) (σ : State) → Doing w got s p h k Q σ → ((τ : State) → Q τ → R τ) → Doing w got s p h k R σ
  doing k Q R σ h g = (h.0, g (after_all l (f k) σ) h.1)

  there : (z : Slot) → Inside x z → (slot_number plan s z < slots plan s) × (slot plan s (slot_number plan s z) ≡ z)
  there z i = (slots_are_numbered x).there z i

  -- ---- what a party has

  -- of the prepared product t: its masks and their product
  pub record Trip (t : ℕ) (σ : State) : Type 0 where
    pub first : Has w got s p h σ (mask_wire x t First) (local_mask w got p s t First)
    pub second : Has w got s p h σ (mask_wire x t Second) (local_mask w got p s t Second)
    pub product : Has w got s p h σ (product_wire x t) (local_mask_product w got p s t)

  -- the wires have these summands, the products are prepared, and the first outputs are there
  pub record Stands (wire : ℕ → ℕ → ℕ) (count k outs : ℕ) (σ : State) : Type 0 where
    pub wires : (v i : ℕ) → v < x.wires → i < m → is_holder plan p i ≡ true → σ.rows v i ≡ wire v i
    pub trips : (t : ℕ) → t < length x.gates → is_prepared x t ≡ true → Trip t σ
    pub ready : Ready w got s p h k count σ
    pub outputs : (o : ℕ) → o < outs → opens_to w.plan s p (Output o) ≡ true → σ.outputs o ≡ Some (local_output w got p s o)

  trip_stays : (t r : ℕ) (σ τ : State) → ((u i : ℕ) → u ≢ r → τ.rows u i ≡ σ.rows u i) → mask_wire x t First ≢ r → mask_wire x t Second ≢ r → product_wire x t ≢ r → Trip t σ → Trip t τ
  trip_stays t r σ τ others a b c trip = record {
    first = λ i li held. others (mask_wire x t First) i a ∙ trip.first i li held;
    second = λ i li held. others (mask_wire x t Second) i b ∙ trip.second i li held;
    product = λ i li held. others (product_wire x t) i c ∙ trip.product i li held;
  }

  -- the row of a wire is none of them
  trip_of_wire : (t r : ℕ) (σ τ : State) → r < x.wires → ((u i : ℕ) → u ≢ r → τ.rows u i ≡ σ.rows u i) → Trip t σ → Trip t τ
  trip_of_wire t r σ τ lr others = trip_stays t r σ τ others (omega (arith, lr)) (omega (arith, lr)) (omega (arith, lr))

  trip_same : (t : ℕ) (σ τ : State) → τ.rows ≡ σ.rows → Trip t σ → Trip t τ
  trip_same t σ τ e trip = record {
    first = λ i li held. ap (λ (g : ℕ → ℕ → ℕ). g (mask_wire x t First) i) e ∙ trip.first i li held;
    second = λ i li held. ap (λ (g : ℕ → ℕ → ℕ). g (mask_wire x t Second) i) e ∙ trip.second i li held;
    product = λ i li held. ap (λ (g : ℕ → ℕ → ℕ). g (product_wire x t) i) e ∙ trip.product i li held;
  }

  -- ---- prepared products

  abbrev g : ℕ
  g = length x.gates

  abbrev one : Bool → ℕ
  one b = if b then 1 else 0

  -- the row that a slot of a mask or of a product of masks sets, and the summands that it gets
  abbrev row_of : Slot → ℕ
  row_of (Mask t side) = mask_wire x t side
  row_of (Mask_product t) = product_wire x t
  row_of z = 0

  abbrev made_in : Slot → ℕ → ℕ
  made_in (Mask t side) = local_mask w got p s t side
  made_in (Mask_product t) = local_mask_product w got p s t
  made_in z = λ i. 0

  -- before slot k, which is no later than the first input's: each slot so far has set its row, in whatever order they stand
  record Preparing (k : ℕ) (σ : State) : Type 0 where
    wires : (v i : ℕ) → v < x.wires → i < m → is_holder plan p i ≡ true → σ.rows v i ≡ 0
    made : (z : Slot) → Inside x z → slot_number plan s z < k → Has w got s p h σ (row_of z) (made_in z)
    ready : Ready w got s p h k 0 σ

  -- a slot before the inputs sets one row, which is no wire's
  sets_one : (z : Slot) → slot_number plan s z < first_input x → (sets_in x z ≡ row_of z ∷ []) × (x.wires ≤ row_of z)
  sets_one (Mask t First) l = (refl, omega arith)
  sets_one (Mask t Second) l = (refl, omega arith)
  sets_one (Mask_product t) l = (refl, omega arith)
  sets_one (Input v) l = absurd (omega (arith, l))
  sets_one (At_gate t) l = absurd (omega (arith, l))
  sets_one (Output o) l = absurd (omega (arith, l))
  sets_one (Masked t First) l = absurd (omega (arith, l))
  sets_one (Masked t Second) l = absurd (omega (arith, l))
  sets_one (Kept j) l = absurd (omega (arith, l))

  sets_its_row : (z : Slot) → Inside x z → slot_number plan s z < first_input x → slot_sets x (slot_number plan s z) (row_of z) ≡ true
  sets_its_row z inside l =
      ap (λ y. list_any (nat_eq (row_of z)) (sets_in x y)) (there z inside).1 ∙ ap (list_any (nat_eq (row_of z))) (sets_one z l).0
      ∙ or_left (nat_eq (row_of z) (row_of z)) false (eq-eqb (row_of z) (row_of z) refl)

  -- no other slot sets it
  other_row : (y z : Slot) → Inside x y → Inside x z → slot_number plan s y < slot_number plan s z → slot_number plan s z < first_input x → row_of y ≢ row_of z
  other_row y z iy iz less l e =
      let k : ℕ = slot_number plan s z in
      let sets : slot_sets x (slot_number plan s y) (row_of z) ≡ true = subst (λ r. slot_sets x (slot_number plan s y) r ≡ true) e (sets_its_row y iy (omega (arith, less, l))) in
      both_ways (slot_sets x k (row_of z)) (wired.order.once (slot_number plan s y) k (row_of z) less (there z iz).0 sets) (sets_its_row z iz l)

  made_next : (z : Slot) → Inside x z → slot_number plan s z < first_input x → (σ τ : State) → Preparing (slot_number plan s z) σ
      → Rowed w got s p h (row_of z) (made_in z) (suc (slot_number plan s z)) 0 σ τ → Preparing (suc (slot_number plan s z)) τ
  made_next z inside l σ τ i r = record {
    wires = λ v j lv lj held. r.others v j (omega (arith, lv, (sets_one z l).1)) ∙ i.wires v j lv lj held;
    made = λ y iy ly. elim (cases_eq (slot_number plan s y) (slot_number plan s z)) [
      | inl same ↦ subst (λ q. Has w got s p h τ (row_of q) (made_in q)) (sym (there z inside).1 ∙ ap (slot plan s) (sym same) ∙ (there y iy).1) r.here
      | inr ne ↦ λ j lj held. r.others (row_of y) j (other_row y z iy inside (omega (arith, ly, ne)) l) ∙ i.made y iy (omega (arith, ly, ne)) j lj held
    ];
    ready = r.ready;
  }

  -- what makes its row
  make : (z : Slot) → Inside x z → slot_number plan s z < first_input x
      → ((σ : State) → Preparing (slot_number plan s z) σ → Doing w got s p h (slot_number plan s z) (Rowed w got s p h (row_of z) (made_in z) (suc (slot_number plan s z)) 0 σ) σ)
      → Up (slot_number plan s z) (Preparing (slot_number plan s z)) → Up (suc (slot_number plan s z)) (Preparing (suc (slot_number plan s z)))
  make z inside l does up =
      let k : ℕ = slot_number plan s z in
      go_on k k (Preparing k) (Preparing (suc k)) refl up (λ σ i. doing k _ (Preparing (suc k)) σ (does σ i) (λ τ r. made_next z inside l σ τ i r))

  prepare : (z : Slot) → Inside x z → slot_number plan s z < first_input x → Up (slot_number plan s z) (Preparing (slot_number plan s z)) → Up (suc (slot_number plan s z)) (Preparing (suc (slot_number plan s z)))
  prepare (Mask t side) inside l up =
      let at = there (Mask t side) inside in
      make (Mask t side) inside l (λ σ i. mask_slot w got s p h t side (slot_number plan s (Mask t side)) 0 at.1 at.0 σ i.ready) up
  prepare (Mask_product t) inside l up =
      let at = there (Mask_product t) inside in
      let behind = masks_before_product x t inside.0 inside.1 in
      make (Mask_product t) inside l (λ σ i. product_of_masks w got s p h t (slot_number plan s (Mask_product t)) 0 at.1 at.0 σ i.ready (i.made (Mask t First) inside (omega (arith, behind))) (i.made (Mask t Second) inside behind)) up
  prepare (Input v) inside l up = absurd (omega (arith, l))
  prepare (At_gate t) inside l up = absurd (omega (arith, l))
  prepare (Output o) inside l up = absurd (omega (arith, l))
  prepare (Masked t First) inside l up = absurd (omega (arith, l))
  prepare (Masked t Second) inside l up = absurd (omega (arith, l))
  prepare (Kept j) inside l up = absurd (omega (arith, l))

  prepared : (k : ℕ) → k ≤ first_input x → Up k (Preparing k)
  prepared zero le = up_to 0 0 (λ σ. σ ≡ new_state) (Preparing 0) refl (tt, refl) (λ σ e. subst (Preparing 0) (sym e) (record {
    wires = λ v i lv li held. refl;
    made = λ z i l. absurd (omega (arith, l));
    ready = record { sums = λ i li. refl; drawn = refl; given = refl };
  }))
  prepared (suc k) le =
      slot_kinds x (λ k z. k < first_input x → Up k (Preparing k) → Up (suc k) (Preparing (suc k))) prepare k
      (omega (arith, le, (slots_are_numbered x).count)) (omega (arith, le)) (prepared k (omega (arith, le)))

  -- all of them have
  all_trips : (σ : State) → Preparing (first_input x) σ → (t : ℕ) → t < g → is_prepared x t ≡ true → Trip t σ
  all_trips σ i t lt is =
      let masks = masks_before_product x t lt is in
      let product = product_before_inputs x t lt is in
      record {
        first = i.made (Mask t First) (lt, is) (omega (arith, masks, product));
        second = i.made (Mask t Second) (lt, is) (omega (arith, masks, product));
        product = i.made (Mask_product t) (lt, is) product;
      }

  -- ---- inputs

  abbrev many : ℕ
  many = length (owners x)

  abbrev started : ℕ → ℕ → ℕ → ℕ
  started v u i = if nat_lt u v then run.start u i else 0

  abbrev input_at : ℕ → ℕ
  input_at v = first_input x + v

  abbrev Giving : ℕ → State → Type 0
  Giving v = Stands (started v) (given_before plan p s v) (input_at v) 0

  given_next : (v count : ℕ) (σ τ : State) → v < many → Giving v σ → count ≡ given_before plan p s (suc v) → Rowed w got s p h v (run.start v) (suc (input_at v)) count σ τ → Giving (suc v) τ
  given_next v count σ τ lv i counted r =
      let wide = wired.input_wires in
      record {
        wires = λ u j lu lj held. elim (cases_eq u v) [
          | inl e ↦ subst (λ z. τ.rows z j ≡ run.start z j) (sym e) (r.here j lj held) ∙ sym (cond-true (nat_lt u (suc v)) _ 0 (lt-ltb u (suc v) (omega (arith, e))))
          | inr ne ↦ r.others u j ne ∙ i.wires u j lu lj held ∙ elim (cases_lt u v) [
            | inl less ↦ cond-true (nat_lt u v) _ 0 (lt-ltb u v less) ∙ sym (cond-true (nat_lt u (suc v)) (run.start u j) 0 (lt-ltb u (suc v) (omega (arith, less))))
            | inr past ↦ cond-false (nat_lt u v) _ 0 (le-ltb u v past) ∙ sym (cond-false (nat_lt u (suc v)) (run.start u j) 0 (le-ltb u (suc v) (omega (arith, past, ne))))
          ]
        ];
        trips = λ t lt its. trip_of_wire t v σ τ (omega (arith, lv, wide)) r.others (i.trips t lt its);
        ready = ready_at w got s p h (suc (input_at v)) (input_at (suc v)) (given_before plan p s (suc v)) τ (omega arith) (subst (λ z. Ready w got s p h (suc (input_at v)) z τ) counted r.ready);
        outputs = λ o lo r. absurd (omega (arith, lo));
      }

  -- what sets the row of input wire v, and deals so many inputs
  set_input : (v count : ℕ) → v < many → count ≡ given_before plan p s (suc v)
      → ((σ : State) → Giving v σ → Doing w got s p h (input_at v) (Rowed w got s p h v (run.start v) (suc (input_at v)) count σ) σ)
      → Up (input_at v) (Giving v) → Up (input_at (suc v)) (Giving (suc v))
  set_input v count lv counted does up =
      let k : ℕ = input_at v in
      up_to (suc k) (input_at (suc v)) (Giving (suc v)) (Giving (suc v)) (omega arith)
      (go_on k k (Giving v) (Giving (suc v)) refl up (λ σ i. doing k _ (Giving (suc v)) σ (does σ i) (λ τ r. given_next v count σ τ lv i counted r))) (λ σ i. i)

  give : (v : ℕ) (o : Source) → v < many → source x v ≡ o → Up (input_at v) (Giving v) → Up (input_at (suc v)) (Giving (suc v))
  give v (GivenBy q) lv is up =
      let k : ℕ = input_at v in
      let n : ℕ = given_before plan p s v in
      let at = there (Input v) lv in
      elim (cases_eq q p) [
        | inl e ↦
            let one' : one (gives plan s p v) ≡ 1 = cond-true (gives plan s p v) 1 0 (ap (given_by p) is ∙ eq-eqb q p e) in
            set_input v (n + 1) lv (omega (arith, one')) (λ σ i. own_input w got s p h v q k n is at.1 at.0 lv σ i.ready e refl) up
        | inr ne ↦
            let none : one (gives plan s p v) ≡ 0 = cond-false (gives plan s p v) 1 0 (ap (given_by p) is ∙ ne_eqb q p ne) in
            set_input v n lv (omega (arith, none)) (λ σ i. other_input w got s p h v q k n is at.1 at.0 lv σ i.ready ne) up
      ]
  give v (Earlier r c j) lv is up =
      let at = there (Input v) lv in
      let none : one (gives plan s p v) ≡ 0 = cond-false (gives plan s p v) 1 0 (ap (given_by p) is) in
      set_input v (given_before plan p s v) lv (omega (arith, none)) (λ σ i. carried_input w got s p h v r c j (input_at v) (given_before plan p s v) is at.1 at.0 lv σ i.ready) up

  given : (v : ℕ) → v ≤ many → Up (input_at v) (Giving v)
  given zero le = up_to (first_input x) (input_at 0) (Preparing (first_input x)) (Giving 0) (omega arith) (prepared (first_input x) (omega arith)) (λ σ i. record {
    wires = λ v j lv lj held. i.wires v j lv lj held ∙ sym (cond-false (nat_lt v 0) (run.start v j) 0 (le-ltb v 0 (omega arith)));
    trips = all_trips σ i;
    ready = ready_at w got s p h (first_input x) (input_at 0) 0 σ (omega arith) i.ready;
    outputs = λ o lo r. absurd (omega (arith, lo));
  })
  given (suc v) le = give v (source x v) (omega (arith, le)) refl (given v (omega (arith, le)))

  -- ---- gates

  abbrev all_given : ℕ
  all_given = given_before plan p s many

  abbrev gate_at : ℕ → ℕ
  gate_at t = first_of_gate x t

  abbrev Gating : ℕ → State → Type 0
  Gating t = Stands (summands run t) all_given (gate_at t) 0

  -- gate t sets its output
  gate_next : (t k : ℕ) (σ ρ τ : State) → t < g → Gating t σ → ρ.rows ≡ σ.rows → suc k ≡ gate_at (suc t) → Rowed w got s p h (gate x t).output (made_at w got s p h t) (suc k) all_given ρ τ → Gating (suc t) τ
  gate_next t k σ ρ τ lt i same at r =
      let o : ℕ = (gate x t).output in
      record {
        wires = λ v j lv lj held. elim (cases_eq v o) [
          | inl e ↦ subst (λ z. τ.rows z j ≡ made_at w got s p h t j) (sym e) (r.here j lj held) ∙ sym (ap (λ z. z j) (set_here (summands run t) o v (made_at w got s p h t) e))
          | inr ne ↦ r.others v j ne ∙ ap (λ (z : ℕ → ℕ → ℕ). z v j) same ∙ i.wires v j lv lj held ∙ sym (ap (λ z. z j) (set_there (summands run t) o v (made_at w got s p h t) ne))
        ];
        trips = λ u lu its. trip_of_wire u o ρ τ (wired.output t lt) r.others (trip_same u σ ρ same (i.trips u lu its));
        ready = ready_at w got s p h (suc k) (gate_at (suc t)) all_given τ at r.ready;
        outputs = λ o lo r. absurd (omega (arith, lo));
      }

  pass_gate : (t : ℕ) → t < g → Up (gate_at t) (Gating t) → Up (gate_at (suc t)) (Gating (suc t))
  pass_gate t lt up =
      let k : ℕ = gate_at t in
      let u : ℕ = (gate x t).first in
      let v : ℕ = (gate x t).second in
      let lu : u < x.wires = wired.first t lt in
      let lv : v < x.wires = wired.second t lt in
      let last = there (At_gate t) lt in
      elim (cases_Bool (is_prepared x t)) [
        | inl is ↦
            let more : one (is_prepared x t) ≡ 1 = cond-true (is_prepared x t) 1 0 is in
            let two : ◌≡◌ {A = ℕ} (if is_prepared x t then 2 else 0) 2 = cond-true (is_prepared x t) 2 0 is in
            let at1 = there (Masked t First) (lt, is) in
            let at2 = there (Masked t Second) (lt, is) in
            let at3 : (k + 2 < slots plan s) × (slot plan s (k + 2) ≡ At_gate t) = subst (λ n. (k + n < slots plan s) × (slot plan s (k + n) ≡ At_gate t)) two last in
            let d : ℕ = local_excess w got p s t First (summands run t u) in
            let e : ℕ = local_excess w got p s t Second (summands run t v) in
            let FirstSet : State → Type 0 = λ τ. (σ : State) × Gating t σ × Showed w got s p h First d (suc k) all_given σ τ in
            let BothSet : State → Type 0 = λ υ. (σ : State) × (τ : State) × Gating t σ × Showed w got s p h First d (suc k) all_given σ τ × Showed w got s p h Second e (suc (k + 1)) all_given τ υ in
            let up1 : Up (suc k) FirstSet = go_on k k (Gating t) FirstSet refl up (λ σ i.
            doing k _ FirstSet σ (masked_wire w got s p h t First k all_given at1.1 at1.0 σ i.ready (λ j lj held. i.wires u j lu lj held) (i.trips t lt is).first) (λ τ r. (σ, i, r))) in
            let up2 : Up (suc (k + 1)) BothSet = go_on (suc k) (k + 1) FirstSet BothSet (omega arith) up1 (λ τ c.
            let i = c.1 in
            let same : τ.rows ≡ c.0.rows = c.2.rows in
            doing (k + 1) _ BothSet τ (masked_wire w got s p h t Second (k + 1) all_given at2.1 at2.0 τ (ready_at w got s p h (suc k) (k + 1) all_given τ (omega arith) c.2.ready)
            (λ j lj held. ap (λ (z : ℕ → ℕ → ℕ). z v j) same ∙ i.wires v j lv lj held) (trip_same t c.0 τ same (i.trips t lt is)).second)
            (λ υ r. (c.0, τ, c.1, c.2, r))) in
            let up3 : Up (suc (k + 2)) (Gating (suc t)) = go_on (suc (k + 1)) (k + 2) BothSet (Gating (suc t)) (omega arith) up2 (λ τ c.
            let σ : State = c.0 in
            let i = c.2 in
            let r1 = c.3 in
            let r2 = c.4 in
            let rows : τ.rows ≡ σ.rows = r2.rows ∙ r1.rows in
            let its : Trip t τ = trip_same t σ τ rows (i.trips t lt is) in
            doing (k + 2) _ (Gating (suc t)) τ (joined_gate w got s p h t (k + 2) all_given at3.1 at3.0 is τ (ready_at w got s p h (suc (k + 1)) (k + 2) all_given τ (omega arith) r2.ready)
            (ap (λ (z : Side → ℕ). z First) r2.excess ∙ ap (λ (z : Side → ℕ). z First) r1.excess) (ap (λ (z : Side → ℕ). z Second) r2.excess) its.first its.second its.product)
            (λ υ r. gate_next t (k + 2) σ τ υ lt i rows (omega (arith, more)) r)) in
            up_to (suc (k + 2)) (gate_at (suc t)) (Gating (suc t)) (Gating (suc t)) (omega (arith, more)) up3 (λ σ i. i)
        | inr not' ↦
            let none : one (is_prepared x t) ≡ 0 = cond-false (is_prepared x t) 1 0 not' in
            let nothing : ◌≡◌ {A = ℕ} (if is_prepared x t then 2 else 0) 0 = cond-false (is_prepared x t) 2 0 not' in
            let here : k + (if is_prepared x t then 2 else 0) ≡ k = omega (arith, nothing) in
            let at : (k < slots plan s) × (slot plan s k ≡ At_gate t) = subst (λ n. (n < slots plan s) × (slot plan s n ≡ At_gate t)) here last in
            up_to (suc k) (gate_at (suc t)) (Gating (suc t)) (Gating (suc t)) (omega (arith, none)) (go_on k k (Gating t) (Gating (suc t)) refl up (λ σ i.
            doing k _ (Gating (suc t)) σ (elim (cases_Bool (is_product (gate x t).operation)) [
              | inl prod ↦ direct_product w got s p h t k all_given at.1 at.0 (direct x.prepared (is_product (gate x t).operation) prod not') σ i.ready (λ j lj held. i.wires u j lu lj held) (λ j lj held. i.wires v j lv lj held)
              | inr linear ↦ linear_gate w got s p h t k all_given at.1 at.0 linear σ i.ready (λ j lj held. i.wires u j lu lj held) (λ j lj held. i.wires v j lv lj held)
            ]) (λ τ r. gate_next t k σ σ τ lt i refl (omega (arith, none)) r))) (λ σ i. i)
      ]
    where
      direct : (a b : Bool) → b ≡ true → (a && b) ≡ false → (not a && b) ≡ true
      direct true b prod none = absurd (both_ways b none prod)
      direct false b prod none = prod

  gated : (t : ℕ) → t ≤ g → Up (gate_at t) (Gating t)
  gated zero le = up_to (input_at many) (gate_at 0) (Giving many) (Gating 0) (omega arith) (given many (omega arith)) (λ σ i. record {
    wires = λ v j lv lj held. i.wires v j lv lj held ∙ all_started v j;
    trips = i.trips;
    ready = ready_at w got s p h (input_at many) (gate_at 0) all_given σ (omega arith) i.ready;
    outputs = λ o lo r. absurd (omega (arith, lo));
  })
    where
      all_started : (u i : ℕ) → started many u i ≡ run.start u i
      all_started u i = elim (cases_Bool (nat_lt u many)) [
        | inl yes' ↦ cond-true (nat_lt u many) _ 0 yes'
        | inr no' ↦ cond-false (nat_lt u many) (run.start u i) 0 no' ∙ sym (cond-false (nat_lt u many) _ 0 no')
      ]
  gated (suc t) le = pass_gate t (omega (arith, le)) (gated t (omega (arith, le)))

  -- ---- outputs

  abbrev output_at : ℕ → ℕ
  output_at o = gate_at g + o

  -- before the slot of output o
  abbrev InOutputs : ℕ → State → Type 0
  InOutputs o = Stands (summands run g) all_given (output_at o) o

  deliver : (o : ℕ) → o < length (readers x) → Up (output_at o) (InOutputs o) → Up (output_at (suc o)) (InOutputs (suc o))
  deliver o lo up =
      let k : ℕ = output_at o in
      let at = there (Output o) lo in
      let wide = wired.output_wires in
      up_to (suc k) (output_at (suc o)) (InOutputs (suc o)) (InOutputs (suc o)) (omega arith) (go_on k k (InOutputs o) (InOutputs (suc o)) refl up (λ σ i.
      doing k (Delivered w got s p h o (suc k) all_given σ) (InOutputs (suc o)) σ (output_slot w got s p h o k all_given at.1 at.0 σ i.ready (λ j lj held. i.wires (output_wire x o) j (omega (arith, lo, wide)) lj held)) (λ τ r. record {
        wires = λ v j lv lj held. ap (λ (z : ℕ → ℕ → ℕ). z v j) r.rows ∙ i.wires v j lv lj held;
        trips = λ t lt its. trip_same t σ τ r.rows (i.trips t lt its);
        ready = ready_at w got s p h (suc k) (output_at (suc o)) all_given τ (omega arith) r.ready;
        outputs = λ u lu reads. elim (cases_eq u o) [
          | inl e ↦ subst (λ z. τ.outputs z ≡ Some (local_output w got p s z)) (sym e) (r.here (subst (λ z. opens_to plan s p (Output z) ≡ true) e reads))
          | inr ne ↦ r.others u ne ∙ i.outputs u (omega (arith, lu, ne)) reads
        ];
      }))) (λ σ i. i)

  delivered_up : (o : ℕ) → o ≤ length (readers x) → Up (output_at o) (InOutputs o)
  delivered_up zero le = up_to (gate_at g) (output_at 0) (Gating g) (InOutputs 0) (omega arith) (gated g (omega arith)) (λ σ i. record {
    wires = i.wires;
    trips = i.trips;
    ready = ready_at w got s p h (gate_at g) (output_at 0) all_given σ (omega arith) i.ready;
    outputs = λ o lo r. absurd (omega (arith, lo));
  })
  delivered_up (suc o) le = deliver o (omega (arith, le)) (delivered_up o (omega (arith, le)))

  -- ---- kept wires

  abbrev all_read : ℕ
  all_read = length (readers x)

  abbrev kept_at : ℕ → ℕ
  kept_at j = output_at all_read + j

  -- before the slot of the wire that is kept at place j
  abbrev pub InKept : ℕ → State → Type 0
  InKept j = Stands (summands run g) all_given (kept_at j) all_read

  keep : (j : ℕ) → j < length x.kept → Up (kept_at j) (InKept j) → Up (kept_at (suc j)) (InKept (suc j))
  keep j lj up =
      let k : ℕ = kept_at j in
      let at = there (Kept j) lj in
      let here : kept_wire x j < x.wires = (let inside = All-get_or (λ (wire : KeptWire). wire.output < length (readers x)) x.kept j no_kept lj wired.kept.outputs in omega (arith, inside, wired.output_wires)) in
      up_to (suc k) (kept_at (suc j)) (InKept (suc j)) (InKept (suc j)) (omega arith) (go_on k k (InKept j) (InKept (suc j)) refl up (λ σ i.
      doing k (λ τ. (τ ≡ σ) × Ready w got s p h (suc k) all_given τ) (InKept (suc j)) σ (kept_slot w got s p h j k all_given at.1 at.0 σ i.ready (λ u lu held. i.wires (kept_wire x j) u here lu held)) (λ τ r. record {
        wires = λ v u lv lu held. ap (λ (ρ : State). ρ.rows v u) r.0 ∙ i.wires v u lv lu held;
        trips = λ t lt its. trip_same t σ τ (ap (λ (ρ : State). ρ.rows) r.0) (i.trips t lt its);
        ready = ready_at w got s p h (suc k) (kept_at (suc j)) all_given τ (omega arith) r.1;
        outputs = λ o lo reads. ap (λ (ρ : State). ρ.outputs o) r.0 ∙ i.outputs o lo reads;
      }))) (λ σ i. i)

  kept_up : (j : ℕ) → j ≤ length x.kept → Up (kept_at j) (InKept j)
  kept_up zero le = up_to (output_at all_read) (kept_at 0) (InOutputs all_read) (InKept 0) (omega arith) (delivered_up all_read (omega arith)) (λ σ i. record {
    wires = i.wires;
    trips = i.trips;
    ready = ready_at w got s p h (output_at all_read) (kept_at 0) all_given σ (omega arith) i.ready;
    outputs = i.outputs;
  })
  kept_up (suc j) le = keep j (omega (arith, le)) (kept_up j (omega (arith, le)))

  pub slots_met : Leaves (Goes w got s p) (local_given w got s p) (joined (slots w.plan s) (slot_program w.plan p s)) (InKept (length (session w.plan s).kept)) new_state
  slots_met = up_to (kept_at (length x.kept)) (slots plan s) (InKept (length x.kept)) (InKept (length x.kept)) (sym (slots_are_numbered x).count) (kept_up (length x.kept) (omega arith)) (λ σ i. i)
