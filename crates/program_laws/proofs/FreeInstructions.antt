-- Instructions of a head that may be done before those of an earlier tail.
use Rattle.std.proofs.Common.{◌≡◌, ℕ, ◌+◌, ◌-◌, ◌%◌, ◌≢◌, ◌^◌, nat_eq, true, if◌then◌else◌, [], ◌∷◌, length, refl, sym, ap, ap₂, ◌∙◌, subst}
use Rattle.std.specs.Prelude.{slice_index, Option, Some}
use Rattle.std.specs.List.{list_any}
use Rattle.std.proofs.lemmas.Bool.{cases_eq, cond-true, eq-eqb, or_left, or_right}
use mathlib.Core.Logic.{inl, inr}
use Rattle.circuit_model.specs.Circuits.{set_at}
use Rattle.circuit_model.specs.Netlists.{read_by}
use Rattle.circuit_model.specs.declared.gate.Gate.{Gate}
use Rattle.circuit_model.proofs.SetAt.{set_here, set_there}
use Rattle.circuit_model.proofs.SetWires.{funext}
use Rattle.secret_sharing.specs.Schemes.{dealt, own_product, local, has_pair}
use Rattle.secret_sharing.specs.Prepared.{masked, joined_summand}
use Rattle.session_slots.specs.Sessions.{Session, Slot, gate, is_prepared, kept_wire, operand, output_wire, mask_wire, product_wire, product_in}
use Rattle.session_slots.specs.Sessions.Slot.{Input, At_gate, Output, Mask, Mask_product, Masked, Kept}
use Rattle.session_slots.specs.declared.side.Side.{Side}
use Rattle.session_slots.specs.declared.side.Side.TheVariants.{First, Second}
use Rattle.session_slots.specs.KeptWires.{sets_in, reads_in}
use Rattle.session_slots.specs.EarlyWires.{completes, reads_early}
use Rattle.plan_model.specs.Plans.{Plan, holder_of, least_held, scheme, session, slot}
use Rattle.plan_model.specs.declared.key.Key.{Key}
use Rattle.share_world.specs.Worlds.{World}
use Rattle.share_world.proofs.Settled.{is_one, is_first, is_second}
use Rattle.program_model.specs.declared.instruction.Instruction.{Instruction}
use Rattle.program_model.specs.declared.instruction.Instruction.TheVariants.{Draw, Deal, Post, Take, Linear, Own, Sum, Open, Join, Deliver}
use Rattle.program_model.specs.States.{Given, State, next, word_after, slot_of, taking_slot, output_in_slot, set_side, dealt_in, drawn_in, excess_of, posted, with_summand, took_in, computed, multiplied, summed, opened_in, joined_in, delivered, opened}
use Rattle.program_laws.specs.Meets.{local_given, OpensRight, OpensExcess, Goes}
use Rattle.program_laws.specs.Exchanges.{MayGoFirst}
use Rattle.program_laws.proofs.GateReads.{local_same}

-- ---- rows

set_same : {A : Type 0} (f : ℕ → A) (v : ℕ) → set_at f v (f v) ≡ f
set_same f v = funext (set_at f v (f v)) f (λ u. elim (cases_eq u v) [
  | inl e ↦ set_here f v u (f v) e ∙ ap f (sym e)
  | inr ne ↦ set_there f v u (f v) ne
])

set_swap : {A : Type 0} (f : ℕ → A) (v u : ℕ) (a b : A) → v ≢ u → set_at (set_at f v a) u b ≡ set_at (set_at f u b) v a
set_swap f v u a b apart = funext (set_at (set_at f v a) u b) (set_at (set_at f u b) v a) (λ z. elim (cases_eq z u) [
  | inl e ↦
      let ne : z ≢ v = λ same. apart (sym same ∙ e) in
      set_here (set_at f v a) u z b e ∙ sym (set_there (set_at f u b) v z a ne ∙ set_here f u z b e)
  | inr ne ↦ set_there (set_at f v a) u z b ne ∙ elim (cases_eq z v) [
    | inl e ↦ set_here f v z a e ∙ sym (set_here (set_at f u b) v z a e)
    | inr other ↦ set_there f v z a other ∙ sym (set_there (set_at f u b) v z a other ∙ set_there f u z b ne)
  ]
])

-- what a party has of words that it took, and of what it opened
pub record Taken : Type 0 where
  pub sums : ℕ → ℕ
  pub excess : Side → ℕ
  pub outputs : ℕ → Option ℕ

-- in a state
abbrev pub taken : State → Taken
taken σ = record { sums = σ.sums; excess = σ.excess; outputs = σ.outputs }

-- a state with another row of wire v and with what was taken
abbrev pub put : State → ℕ → (ℕ → ℕ) → Taken → State
put σ v row t = record σ { rows = set_at σ.rows v row; sums = t.sums; excess = t.excess; outputs = t.outputs }

module _ (w : World) (got : Key → ℕ) (s p : ℕ) where
  abbrev plan : Plan
  plan = w.plan

  abbrev x : Session
  x = session w.plan s

  abbrev l : Given
  l = local_given w got s p

  abbrev step : Instruction → State → State
  step = next l

  abbrev P : Instruction → State → Type 0
  P = Goes w got s p

  abbrev pub Reads : Slot → ℕ → Type 0
  Reads z v = list_any (nat_eq v) (reads_in x z) ≡ true

  abbrev pub Sets : Slot → ℕ → Type 0
  Sets z v = list_any (nat_eq v) (sets_in x z) ≡ true

  -- the head of the slot has nothing to do with wire v
  abbrev pub Clear : Slot → ℕ → Type 0
  Clear z v = ((u : ℕ) → list_any (nat_eq u) (reads_early x z) ≡ true → v ≢ u) × ((u : ℕ) → Sets z u → v ≢ u)

  -- its tail sets no wire but v
  abbrev pub Only : Slot → ℕ → Type 0
  Only z v = (u : ℕ) → list_any (nat_eq u) (completes x z) ≡ true → u ≡ v

  -- e, of the head of slot z, looks at nothing of wire v and of what was taken, and changes none of them; it changes no
  -- row but of wires that z sets
  pub record Passes (z : Slot) (e : Instruction) (v : ℕ) : Type 0 where
    pub over : (σ : State) (row : ℕ → ℕ) (t : Taken) → step e (put σ v row t) ≡ put (step e σ) v row t
    pub rows : (σ : State) (u : ℕ) → (Sets z u → ⊥) → (step e σ).rows u ≡ σ.rows u
    pub taken : (σ : State) → taken (step e σ) ≡ taken σ
    pub right : (σ : State) (row : ℕ → ℕ) (t : Taken) → P e (put σ v row t) → P e σ

  -- the states have the same of wire v, of the wires that slot z reads and of what was taken
  pub record Agree (z : Slot) (v : ℕ) (σ τ : State) : Type 0 where
    pub wire : τ.rows v ≡ σ.rows v
    pub reads : (u : ℕ) → Reads z u → τ.rows u ≡ σ.rows u
    pub taken : taken τ ≡ taken σ

  -- t, of the tail of slot z, looks at nothing but those, and changes nothing but wire v and what was taken
  pub record Puts (z : Slot) (t : Instruction) (v : ℕ) : Type 0 where
    pub row : State → ℕ → ℕ
    pub new : State → Taken
    pub is : (σ : State) → step t σ ≡ put σ v (row σ) (new σ)
    pub same_row : (σ τ : State) → Agree z v σ τ → row τ ≡ row σ
    pub same_new : (σ τ : State) → Agree z v σ τ → new τ ≡ new σ
    pub right : (σ τ : State) → Agree z v σ τ → P t σ → P t τ

  pub free : (z y : Slot) (t e : Instruction) (v : ℕ) → ((u : ℕ) → Reads z u → Sets y u → ⊥) → Clear y v → Puts z t v → Passes y e v → MayGoFirst P l t e
  free z y t e v apart clear a b =
      let agree : (σ : State) → Agree z v σ (step e σ) = λ σ. record {
        wire = b.rows σ v (λ sets. clear.1 v sets refl);
        reads = λ u reads. b.rows σ u (apart u reads);
        taken = b.taken σ;
      } in
      record {
        same = λ σ.
            let τ : State = step e σ in
            ap (step e) (a.is σ) ∙ b.over σ (a.row σ) (a.new σ)
            ∙ sym (a.is τ ∙ ap₂ (λ r n. put τ v r n) (a.same_row σ τ (agree σ)) (a.same_new σ τ (agree σ)));
        first = λ σ h. b.right σ (a.row σ) (a.new σ) (subst (P e) (a.is σ) h);
        second = λ σ h. a.right σ (step e σ) (agree σ) h;
      }

  -- ---- tails

  sums_of : (σ τ : State) → taken τ ≡ taken σ → τ.sums ≡ σ.sums
  sums_of σ τ e = ap (λ t. t.sums) e

  excess_is : (σ τ : State) → taken τ ≡ taken σ → τ.excess ≡ σ.excess
  excess_is σ τ e = ap (λ t. t.excess) e

  outputs_of : (σ τ : State) → taken τ ≡ taken σ → τ.outputs ≡ σ.outputs
  outputs_of σ τ e = ap (λ t. t.outputs) e

  -- a word that joins the sums
  take_sums : (n i v : ℕ) (z : Slot) → ((σ : State) → step (Take n i) σ ≡ record σ { sums = set_at σ.sums i ((σ.sums i + l.got n) % 2 ^ plan.bits) }) → Puts z (Take n i) v
  take_sums n i v z is =
      let new : State → Taken = λ σ. record { sums = set_at σ.sums i ((σ.sums i + l.got n) % 2 ^ plan.bits); excess = σ.excess; outputs = σ.outputs } in
      record {
        row = λ σ. σ.rows v;
        new = new;
        is = λ σ. is σ ∙ ap (λ rows. record σ { rows = rows; sums = (new σ).sums }) (sym (set_same σ.rows v));
        same_row = λ σ τ same. same.wire;
        same_new = λ σ τ same. ap (λ t. record { sums = set_at t.sums i ((t.sums i + l.got n) % 2 ^ plan.bits); excess = t.excess; outputs = t.outputs }) same.taken;
        right = λ σ τ same h. (h.0, tt);
      }

  -- a word that is a summand of wire u
  take_row : (n i u v : ℕ) (z : Slot) → ((σ : State) → step (Take n i) σ ≡ with_summand u i (l.got n) σ) → u ≡ v → Puts z (Take n i) v
  take_row n i u v z is e =
      record {
        row = λ σ. set_at (σ.rows v) i (l.got n);
        new = taken;
        is = λ σ. is σ ∙ ap (λ y. with_summand y i (l.got n) σ) e;
        same_row = λ σ τ same. ap (λ f. set_at f i (l.got n)) same.wire;
        same_new = λ σ τ same. same.taken;
        right = λ σ τ same h. (h.0, tt);
      }

  pub take_puts : (n i v : ℕ) (z : Slot) → taking_slot plan n ≡ z → Only z v → Puts z (Take n i) v
  take_puts n i v (Input u) e only = take_row n i u v (Input u) (λ σ. ap (λ y. took_in plan s y i (l.got n) σ) e) (only u (is_one u u refl))
  take_puts n i v (Mask t side) e only =
      let mask : ℕ = mask_wire x t side in
      take_row n i mask v (Mask t side) (λ σ. ap (λ y. took_in plan s y i (l.got n) σ) e) (only mask (is_one mask mask refl))
  take_puts n i v (At_gate t) e only = take_sums n i v (At_gate t) (λ σ. ap (λ y. took_in plan s y i (l.got n) σ) e)
  take_puts n i v (Output o) e only = take_sums n i v (Output o) (λ σ. ap (λ y. took_in plan s y i (l.got n) σ) e)
  take_puts n i v (Mask_product t) e only = take_sums n i v (Mask_product t) (λ σ. ap (λ y. took_in plan s y i (l.got n) σ) e)
  take_puts n i v (Masked t side) e only = take_sums n i v (Masked t side) (λ σ. ap (λ y. took_in plan s y i (l.got n) σ) e)
  take_puts n i v (Kept j) e only = take_sums n i v (Kept j) (λ σ. ap (λ y. took_in plan s y i (l.got n) σ) e)

  pub sum_puts : (k v : ℕ) (z : Slot) → slot plan s k ≡ z → (product_in x z).output ≡ v → Puts z (Sum k) v
  sum_puts k v z e out =
      let complete : (ℕ → ℕ) → (ℕ → ℕ) → ℕ → ℕ = λ row sums i. ((if has_pair (scheme plan) p then row i else 0) + sums i) % 2 ^ plan.bits in
      record {
        row = λ σ. complete (σ.rows v) σ.sums;
        new = λ σ. record { sums = λ i. 0; excess = σ.excess; outputs = σ.outputs };
        is = λ σ. ap (λ y. summed plan p (product_in x y) σ) e
            ∙ ap (λ u. record σ { rows = set_at σ.rows u (complete (σ.rows u) σ.sums); sums = λ i. 0 }) out;
        same_row = λ σ τ same. ap₂ complete same.wire (sums_of σ τ same.taken);
        same_new = λ σ τ same. ap (λ t. record { sums = λ i. 0; excess = t.excess; outputs = t.outputs }) same.taken;
        right = λ σ τ same h. (h.0, tt);
      }

  pub open_puts : (k t v : ℕ) (side : Side) → slot plan s k ≡ Masked t side → Puts (Masked t side) (Open k) v
  open_puts k t v side e =
      let z : Slot = Masked t side in
      let u : ℕ = operand (gate x t) side in
      let mask : ℕ = mask_wire x t side in
      let value : State → ℕ = λ σ. opened plan p (excess_of plan s t side σ) σ.sums in
      let same_value : (σ τ : State) → Agree z v σ τ → value τ ≡ value σ = λ σ τ same.
      ap₂ (opened plan p) (ap₂ (masked (scheme plan)) (same.reads u (is_first u mask)) (same.reads mask (is_second u mask))) (sums_of σ τ same.taken) in
      let new : State → Taken = λ σ. record { sums = λ i. 0; excess = set_side σ.excess side (value σ); outputs = σ.outputs } in
      record {
        row = λ σ. σ.rows v;
        new = new;
        is = λ σ. ap (λ y. opened_in plan p s y σ) e ∙ ap (λ rows. record σ { rows = rows; sums = λ i. 0; excess = (new σ).excess }) (sym (set_same σ.rows v));
        same_row = λ σ τ same. same.wire;
        same_new = λ σ τ same. ap₂ (λ t a. record { sums = λ i. 0; excess = set_side t.excess side a; outputs = t.outputs }) same.taken (same_value σ τ same);
        right = λ σ τ same h. (h.0, subst (λ y. OpensExcess w got s p y τ) (sym e) (same_value σ τ same ∙ subst (λ y. OpensExcess w got s p y σ) e h.1));
      }

  pub join_puts : (k t v : ℕ) → slot plan s k ≡ At_gate t → is_prepared x t ≡ true → (gate x t).output ≡ v → Puts (At_gate t) (Join k) v
  join_puts k t v e prepared out =
      let z : Slot = At_gate t in
      let a : ℕ = mask_wire x t First in
      let b : ℕ = mask_wire x t Second in
      let c : ℕ = product_wire x t in
      let reads : (u : ℕ) → list_any (nat_eq u) (a ∷ b ∷ c ∷ []) ≡ true → Reads z u = λ u h.
      ap (list_any (nat_eq u)) (cond-true (is_prepared x t) (a ∷ b ∷ c ∷ []) (read_by (gate x t)) prepared) ∙ h in
      let joined : (Side → ℕ) → (ℕ → ℕ) → (ℕ → ℕ) → (ℕ → ℕ) → ℕ → ℕ = λ excess f g h. joined_summand (2 ^ plan.bits) (excess First) (excess Second) f g h in
      record {
        row = λ σ. joined σ.excess (σ.rows a) (σ.rows b) (σ.rows c);
        new = taken;
        is = λ σ. ap (λ y. joined_in plan s y σ) e ∙ ap (λ u. record σ { rows = set_at σ.rows u (joined σ.excess (σ.rows a) (σ.rows b) (σ.rows c)) }) out;
        same_row = λ σ τ same.
            ap₂ (λ d f. joined d f (τ.rows b) (τ.rows c)) (excess_is σ τ same.taken) (same.reads a (reads a (or_left (nat_eq a a) _ (eq-eqb a a refl))))
            ∙ ap₂ (λ f g. joined σ.excess (σ.rows a) f g) (same.reads b (reads b (or_right (nat_eq b a) _ (is_first b c)))) (same.reads c (reads c (or_right (nat_eq c a) _ (is_second b c))));
        same_new = λ σ τ same. same.taken;
        right = λ σ τ same h. (h.0, tt);
      }

  pub deliver_puts : (k o v : ℕ) → slot plan s k ≡ Output o → Puts (Output o) (Deliver k) v
  deliver_puts k o v e =
      let z : Slot = Output o in
      let u : ℕ = output_wire x o in
      let value : State → ℕ = λ σ. opened plan p (σ.rows u) σ.sums in
      let same_value : (σ τ : State) → Agree z v σ τ → value τ ≡ value σ = λ σ τ same.
      ap₂ (opened plan p) (same.reads u (is_one u u refl)) (sums_of σ τ same.taken) in
      let new : State → Taken = λ σ. record { sums = λ i. 0; excess = σ.excess; outputs = set_at σ.outputs o (Some (value σ)) } in
      record {
        row = λ σ. σ.rows v;
        new = new;
        is = λ σ. ap (λ y. delivered plan p (output_wire x (output_in_slot y)) (output_in_slot y) σ) e
            ∙ ap (λ rows. record σ { rows = rows; sums = λ i. 0; outputs = (new σ).outputs }) (sym (set_same σ.rows v));
        same_row = λ σ τ same. same.wire;
        same_new = λ σ τ same. ap₂ (λ t a. record { sums = λ i. 0; excess = t.excess; outputs = set_at t.outputs o (Some a) }) same.taken (same_value σ τ same);
        right = λ σ τ same h.
            let before : OpensRight w got s p o σ = subst (λ y. OpensRight w got s p (output_in_slot y) σ) e h.1 in
            (h.0, subst (λ y. OpensRight w got s p (output_in_slot y) τ) (sym e) (before.0, same_value σ τ same ∙ before.1));
      }

  -- ---- heads

  -- another row of wire v leaves those of the wires that it differs from
  others : (σ : State) (v u : ℕ) (row : ℕ → ℕ) → v ≢ u → set_at σ.rows v row u ≡ σ.rows u
  others σ v u row ne = set_there σ.rows v u row (λ e. ne (sym e))

  posted_is : (z : Slot) (i v : ℕ) (σ : State) (row : ℕ → ℕ) (t : Taken) → Clear z v → posted plan s z i (put σ v row t) ≡ posted plan s z i σ
  posted_is (Input u) i v σ row t clear = ap (λ f. f i) (others σ v u row (clear.1 u (is_one u u refl)))
  posted_is (At_gate g) i v σ row t clear = let u : ℕ = (gate x g).output in ap (λ f. f i) (others σ v u row (clear.1 u (is_one u u refl)))
  posted_is (Output o) i v σ row t clear = let u : ℕ = output_wire x o in ap (λ f. f i) (others σ v u row (clear.0 u (is_one u u refl)))
  posted_is (Mask g side) i v σ row t clear = let u : ℕ = mask_wire x g side in ap (λ f. f i) (others σ v u row (clear.1 u (is_one u u refl)))
  posted_is (Mask_product g) i v σ row t clear = let u : ℕ = product_wire x g in ap (λ f. f i) (others σ v u row (clear.1 u (is_one u u refl)))
  posted_is (Masked g side) i v σ row t clear =
      let u : ℕ = operand (gate x g) side in
      let m : ℕ = mask_wire x g side in
      ap₂ (λ a b. masked (scheme plan) a b i) (others σ v u row (clear.0 u (is_first u m))) (others σ v m row (clear.0 m (is_second u m)))
  posted_is (Kept j) i v σ row t clear = let u : ℕ = kept_wire x j in ap (λ f. f i) (others σ v u row (clear.0 u (is_one u u refl)))

  pub post_passes : (n i v : ℕ) (z : Slot) → slot_of plan n ≡ z → Clear z v → Passes z (Post n i) v
  post_passes n i v z e clear =
      record {
        over = λ σ row t. refl;
        rows = λ σ u none. refl;
        taken = λ σ. refl;
        right = λ σ row t h.
            let same : posted plan s (slot_of plan n) i (put σ v row t) ≡ posted plan s (slot_of plan n) i σ =
            ap (λ y. posted plan s y i (put σ v row t)) e ∙ posted_is z i v σ row t clear ∙ sym (ap (λ y. posted plan s y i σ) e) in
            (h.0, (h.1.0, sym same ∙ h.1.1));
      }

  -- what sets the row of a wire of its slot, from nothing of v and of what was taken
  row_passes : (e : Instruction) (z : Slot) (u v : ℕ) (new : State → ℕ → ℕ) (drawn given : ℕ → ℕ) → Sets z u → Clear z v
      → ((σ : State) → step e σ ≡ record σ { rows = set_at σ.rows u (new σ); drawn = drawn σ.drawn; given = given σ.given })
      → ((σ : State) (row : ℕ → ℕ) (t : Taken) → new (put σ v row t) ≡ new σ) → ((σ : State) (row : ℕ → ℕ) (t : Taken) → P e (put σ v row t) → P e σ) → Passes z e v
  row_passes e z u v new drawn given sets clear is same right =
      record {
        over = λ σ row t. is (put σ v row t)
            ∙ ap (λ rows. record σ { rows = rows; sums = t.sums; excess = t.excess; drawn = drawn σ.drawn; given = given σ.given; outputs = t.outputs })
            (ap (set_at (set_at σ.rows v row) u) (same σ row t) ∙ set_swap σ.rows v u row (new σ) (clear.1 u sets))
            ∙ sym (ap (λ τ. put τ v row t) (is σ));
        rows = λ σ y none. ap (λ τ. τ.rows y) (is σ) ∙ set_there σ.rows u y (new σ) (λ one. none (subst (Sets z) (sym one) sets));
        taken = λ σ. ap taken (is σ);
        right = right;
      }

  pub draw_passes : (k t v : ℕ) (side : Side) → slot plan s k ≡ Mask t side → Clear (Mask t side) v → Passes (Mask t side) (Draw k) v
  draw_passes k t v side e clear =
      let mask : ℕ = mask_wire x t side in
      let sets : Sets (Mask t side) mask = is_one mask mask refl in
      let new : (ℕ → ℕ) → (ℕ → ℕ) → ℕ → ℕ = λ words row i. if nat_eq (holder_of plan i) p then words (least_held plan p i) else row i in
      row_passes (Draw k) (Mask t side) mask v (λ σ. new (word_after l σ.drawn) (σ.rows mask)) (λ n. n + least_held plan p (length plan.groups)) (λ n. n) sets clear
      (λ σ. ap (λ y. drawn_in plan p s (word_after l σ.drawn) y σ) e) (λ σ row q. ap (new (word_after l σ.drawn)) (others σ v mask row (clear.1 mask sets))) (λ σ row q h. h)

  pub deal_passes_input : (k d u v : ℕ) → slot plan s k ≡ Input u → Clear (Input u) v → Passes (Input u) (Deal k d) v
  deal_passes_input k d u v e clear = row_passes (Deal k d) (Input u) u v (λ σ. dealt (scheme plan) (slice_index l.inputs σ.given) (word_after l σ.drawn)) (λ n. n + (length plan.groups - 1)) (λ n. n + 1) (is_one u u refl) clear
      (λ σ. ap (λ y. dealt_in plan s (word_after l σ.drawn) (slice_index l.inputs σ.given) y σ) e) (λ σ row t. refl) (λ σ row t h. h)

  -- the deal of a product
  deal_passes : (k d u v : ℕ) (z : Slot) → Sets z u → Clear z v → ((σ : State) → step (Deal k d) σ ≡ record σ { rows = set_at σ.rows u (dealt (scheme plan) σ.own (word_after l σ.drawn)); drawn = σ.drawn + (length plan.groups - 1) }) → Passes z (Deal k d) v
  deal_passes k d u v z sets clear is = row_passes (Deal k d) z u v (λ σ. dealt (scheme plan) σ.own (word_after l σ.drawn)) (λ n. n + (length plan.groups - 1)) (λ n. n) sets clear is (λ σ row t. refl) (λ σ row t h. h)

  pub deal_passes_gate : (k d t v : ℕ) → slot plan s k ≡ At_gate t → Clear (At_gate t) v → Passes (At_gate t) (Deal k d) v
  deal_passes_gate k d t v e clear = let u : ℕ = (gate x t).output in
      deal_passes k d u v (At_gate t) (is_one u u refl) clear (λ σ. ap (λ y. dealt_in plan s (word_after l σ.drawn) (slice_index l.inputs σ.given) y σ) e)

  pub deal_passes_masks : (k d t v : ℕ) → slot plan s k ≡ Mask_product t → Clear (Mask_product t) v → Passes (Mask_product t) (Deal k d) v
  deal_passes_masks k d t v e clear = let u : ℕ = product_wire x t in
      deal_passes k d u v (Mask_product t) (is_one u u refl) clear (λ σ. ap (λ y. dealt_in plan s (word_after l σ.drawn) (slice_index l.inputs σ.given) y σ) e)

  pub own_passes : (k v : ℕ) (z : Slot) → slot plan s k ≡ z → v ≢ (product_in x z).first → v ≢ (product_in x z).second → Passes z (Own k) v
  own_passes k v z e ne1 ne2 =
      let g : Gate = product_in x z in
      let is : (σ : State) → step (Own k) σ ≡ multiplied plan p g σ = λ σ. ap (λ y. multiplied plan p (product_in x y) σ) e in
      record {
        over = λ σ row t. is (put σ v row t)
            ∙ ap₂ (λ a b. record σ { rows = set_at σ.rows v row; own = own_product (scheme plan) p a b; sums = t.sums; excess = t.excess; outputs = t.outputs })
            (others σ v g.first row ne1) (others σ v g.second row ne2)
            ∙ sym (ap (λ τ. put τ v row t) (is σ));
        rows = λ σ u none. ap (λ τ. τ.rows u) (is σ);
        taken = λ σ. ap taken (is σ);
        right = λ σ row t h. (h.0, tt);
      }

  pub linear_passes : (k t v : ℕ) → slot plan s k ≡ At_gate t → Clear (At_gate t) v → ((u : ℕ) → list_any (nat_eq u) (read_by (gate x t)) ≡ true → v ≢ u) → Passes (At_gate t) (Linear k) v
  linear_passes k t v e clear reads =
      let g : Gate = gate x t in
      let new : (ℕ → ℕ → ℕ) → ℕ → ℕ = λ rows i. local (2 ^ plan.bits) g.operation g.constant i (rows g.first i) (rows g.second i) in
      let same : (σ : State) (row : ℕ → ℕ) → new (set_at σ.rows v row) ≡ new σ.rows = λ σ row. funext (new (set_at σ.rows v row)) (new σ.rows) (λ i.
      local_same (2 ^ plan.bits) g i _ _ _ _ (λ r. ap (λ f. f i) (others σ v g.first row (reads g.first r))) (λ r. ap (λ f. f i) (others σ v g.second row (reads g.second r)))) in
      row_passes (Linear k) (At_gate t) g.output v (λ σ. new σ.rows) (λ n. n) (λ n. n) (is_one g.output g.output refl) clear
      (λ σ. ap (λ y. computed (2 ^ plan.bits) (product_in x y) σ) e) (λ σ row q. same σ row) (λ σ row q h. (h.0, tt))
