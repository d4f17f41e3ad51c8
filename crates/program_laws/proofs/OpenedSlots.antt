-- What a party does in a slot of an output, or of a masked wire: it opens it.
use Rattle.std.proofs.Common.{◌≡◌, ◌≢◌, ℕ, suc, ◌+◌, ◌%◌, ◌<◌, ◌^◌, true, false, not, nat_eq, if◌then◌else◌, List, [], ◌∷◌, length, refl, sym, ap, ap₂, ◌∙◌, subst, arith}
use Rattle.std.specs.Prelude.{Some}
use Rattle.std.specs.List.{AllByRecursion, filter}
use Rattle.std.proofs.lemmas.Bool.{cases_Bool, cond-true, cond-false, eq-eqb, ne_eqb, eqb-true, both_ways, not_from_false}
use Rattle.std.proofs.Math.Nat.{mod-eq_of_lt}
use mathlib.Core.Logic.{inl, inr}
use Rattle.list_laws.specs.Lists.{total, joined, only_if}
use Rattle.list_laws.proofs.Totals.{total_eq, total_zero}
use Rattle.mpc_ring.specs.Differences.{difference}
use Rattle.mpc_ring.proofs.Remainders.{same_refl, same_mod, same_trans, mods_of_same}
use Rattle.secret_sharing.proofs.RingTotals.{total_same}
use Rattle.circuit_model.proofs.SetAt.{set_here, set_there}
use Rattle.secret_sharing.specs.Schemes.{Run, summands}
use Rattle.secret_sharing.specs.Prepared.{masked}
use Rattle.session_slots.specs.declared.side.Side.{Side}
use Rattle.session_slots.specs.Sessions.{Session, Slot, gate, operand, output_wire, mask_wire}
use Rattle.session_slots.specs.Sessions.Slot.{Output, Masked}
use Rattle.plan_model.specs.Plans.{Plan, scheme, session, slot, slots, is_holder, holder_of, opens_to, words_in, words_before}
use Rattle.plan_model.specs.declared.key.Key.{Key}
use Rattle.plan_model.specs.Firsts.{numbers}
use Rattle.plan_model.specs.Messages.{slot_messages, open_messages}
use Rattle.plan_model.specs.Numbers.{message}
use Rattle.plan_model.proofs.PlanSchemes.{least_holds}
use Rattle.plan_model.proofs.SlotMessages.{every_filter, keys_are}
use Rattle.share_world.specs.Worlds.{World}
use Rattle.share_world.specs.Locals.{local_mask, local_opened, local_excess, local_output, local_run, local_word_in}
use Rattle.program_model.specs.declared.instruction.Instruction.{Instruction}
use Rattle.program_model.specs.declared.instruction.Instruction.TheVariants.{Open, Deliver}
use Rattle.program_model.specs.Programs.{from, to, post, opening, closing}
use Rattle.program_model.specs.States.{Given, State, next, after_all, posted, excess_of, opened, opened_in, delivered, output_in_slot, set_side}
use Rattle.program_model.specs.Proper.{IsMasked, IsOutput}
use Rattle.program_model.proofs.InstructionLists.{Leaves}
use Rattle.program_laws.specs.Meets.{local_given, OpensRight, OpensExcess, RightAt, Goes}
use Rattle.program_laws.proofs.ProductSlots.{Doing, Has}
use Rattle.program_laws.proofs.SlotRuns.{Runs, valid, positive, number_is, more_words, Ready, key, In, numbered, ShownBy, all_shown, slot_is, word_of, none_taken, TakesOwn, own_takes, taking_is, own_leaves}
use Rattle.program_laws.proofs.SlotTakes.{Adds, SumsOf, tally, takes_sums}
use Rattle.program_laws.proofs.SlotTallies.{key_tally, tally_is, key_tally-joined, key_tally-only_if, one_tally, no_words, total_only}

module _ (w : World) (got : Key → ℕ) (s p : ℕ) (h : Runs w s p) where
  abbrev plan : Plan
  plan = w.plan

  abbrev x : Session
  x = session w.plan s

  abbrev m : ℕ
  m = length w.plan.groups

  abbrev q : ℕ
  q = 2 ^ w.plan.bits

  abbrev l : Given
  l = local_given w got s p

  abbrev run : Run
  run = local_run w got p s

  abbrev Leaving : List Instruction → (State → Type 0) → State → Type 0
  Leaving es R σ = Leaves (Goes w got s p) l es R σ

  -- what is the same of both kinds: what p holds of what is opened, and its summands
  pub record IsOpeningSlot (z : Slot) (held : State → ℕ → ℕ) (value : ℕ → ℕ) : Type 0 where
    pub keys : (k : ℕ) → slot_messages w.plan s k z ≡ joined w.plan.parties (λ r. only_if (opens_to w.plan s r z) (open_messages w.plan s k r))
    pub opens : (k : ℕ) → opening w.plan p s k z ≡ []
    pub adds : Adds z
    pub own : TakesOwn w got s p h z
    pub word : (k i r : ℕ) → local_word_in w got p (key w got s p h k i p r) z ≡ value i
    pub sent : (i : ℕ) (σ : State) → posted w.plan s z i σ ≡ held σ i
    pub words : words_in w.plan s p z ≡ 0
    pub by_rows : (σ τ : State) (i : ℕ) → τ.rows ≡ σ.rows → held τ i ≡ held σ i

  module _ (z : Slot) (held : State → ℕ → ℕ) (value : ℕ → ℕ) (kind : IsOpeningSlot z held value) (k count : ℕ) (at : slot w.plan s k ≡ z) (lk : k < slots w.plan s) (σ : State) (ready : Ready w got s p h k count σ)
      (holding : (i : ℕ) → i < length w.plan.groups → is_holder w.plan p i ≡ true → held σ i ≡ value i) where
    abbrev ns : List ℕ
    ns = filter (to plan p) (numbers plan s k)

    abbrev Shown : Key → Type 0
    Shown = ShownBy w got s p h k z

    all : AllByRecursion (In w got s p h Shown) (numbers plan s k)
    all = numbered w got s p h k z Shown at lk (subst (AllByRecursion Shown) (sym (kind.keys k)) (all_shown w got s p h k z))

    sends : AllByRecursion (λ n. RightAt w got s p (post plan n) σ) (filter (from plan p) (numbers plan s k))
    sends = every_filter _ _ (from plan p) (numbers plan s k) all (λ n f e.
        let i : ℕ = (message plan n).share in
        let r : ℕ = (message plan n).receiver in
        let sender : (message plan n).sender ≡ p = eqb-true _ _ e in
        let least : holder_of plan i ≡ p = sym (ap (λ (y : Key). y.sender) f.1.0) ∙ sender in (
          sender,
          ap (λ y. posted plan s y i σ) (slot_is w got s p h k z n _ _ _ at f.1.0) ∙ kind.sent i σ
              ∙ holding i f.1.1 (subst (λ y. is_holder plan y i ≡ true) least (least_holds plan (valid w got s p h) i f.1.1))
              ∙ sym (kind.word k i r)
              ∙ ap (λ y. local_word_in w got p (key w got s p h k i y r) z) (sym least)
              ∙ sym (word_of w got s p h k z n i (holder_of plan i) r at f.1.0),
        ))

    sent : ℕ → ℕ
    sent i = got (key w got s p h k i (holder_of plan i) p)

    open_tally : (r i : ℕ) → key_tally got p i (open_messages plan s k r) ≡ total m (λ j. if not (is_holder plan r j) then (if nat_eq r p then (if nat_eq i j then got (key w got s p h k j (holder_of plan j) r) else 0) else 0) else 0)
    open_tally r i = key_tally-joined got p i m (λ j. only_if (not (is_holder plan r j)) (key w got s p h k j (holder_of plan j) r ∷ []))
        ∙ total_eq m _ _ (λ j lj. one_tally got p i (not (is_holder plan r j)) (key w got s p h k j (holder_of plan j) r))

    -- the words of summand i that come to p, which reads
    tally_of : opens_to plan s p z ≡ true → (i : ℕ) → i < m → is_holder plan p i ≡ false → tally l i ns ≡ sent i
    unfolding sent
    tally_of reads i li lacks =
        let term : ℕ → ℕ → ℕ = λ r j. if not (is_holder plan r j) then (if nat_eq r p then (if nat_eq i j then got (key w got s p h k j (holder_of plan j) r) else 0) else 0) else 0 in
        let others : (r : ℕ) → r ≢ p → key_tally got p i (open_messages plan s k r) ≡ 0 = λ r ne. open_tally r i ∙ total_zero m (term r) (λ j lj. ap (λ y. if not (is_holder plan r j) then y else 0) (cond-false (nat_eq r p) _ 0 (ne_eqb r p ne)) ∙ no_words (not (is_holder plan r j))) in
        let mine' : key_tally got p i (open_messages plan s k p) ≡ sent i = open_tally p i
        ∙ total_only m i (term p) li (λ j lj ne. ap (λ y. if not (is_holder plan p j) then y else 0) (cond-true (nat_eq p p) _ 0 (eq-eqb p p refl) ∙ cond-false (nat_eq i j) _ 0 (ne_eqb i j (λ e. ne (sym e)))) ∙ no_words (not (is_holder plan p j)))
        ∙ cond-true (not (is_holder plan p i)) _ 0 (not_from_false _ lacks) ∙ cond-true (nat_eq p p) _ 0 (eq-eqb p p refl) ∙ cond-true (nat_eq i i) _ 0 (eq-eqb i i refl) in
        tally_is l got p i (numbers plan s k) (λ n. refl)
        ∙ ap (key_tally got p i) (keys_are plan s k h.session_there lk)
        ∙ ap (λ y. key_tally got p i (slot_messages plan s k y)) at
        ∙ ap (key_tally got p i) (kind.keys k)
        ∙ key_tally-joined got p i plan.parties (λ r. only_if (opens_to plan s r z) (open_messages plan s k r))
        ∙ total_only plan.parties p _ h.party_there (λ r lr ne. key_tally-only_if got p i (opens_to plan s r z) (open_messages plan s k r) ∙ ap (λ y. if opens_to plan s r z then y else 0) (others r ne) ∙ no_words (opens_to plan s r z))
        ∙ key_tally-only_if got p i (opens_to plan s p z) (open_messages plan s k p) ∙ cond-true (opens_to plan s p z) _ 0 reads ∙ mine'

    abbrev taken : State
    taken = after_all l (own_takes w got s p h k) σ

    took : SumsOf m q σ taken (λ i. 0 + tally l i ns)
    took = takes_sums l m z ns σ (λ i. 0) kind.adds (every_filter _ _ (to plan p) (numbers plan s k) all (λ n f e. taking_is w got s p h k z n _ _ _ kind.own at f.1.0))
        (λ i li. ready.sums i li ∙ sym (mod-eq_of_lt (positive w got s p h)))

    -- what p opens
    opened_is : opens_to plan s p z ≡ true → opened plan p (held taken) taken.sums ≡ local_opened w got p s z value
    unfolding sent
    opened_is reads = mods_of_same (total_same q m _ _ (λ i li. elim (cases_Bool (is_holder plan p i)) [
      | inl has ↦ same_refl _ _ _ (cond-true (is_holder plan p i) _ _ has ∙ kind.by_rows σ taken i took.rows ∙ holding i li has ∙ sym (cond-true (is_holder plan p i) _ _ has))
      | inr lacks ↦ same_trans (same_refl _ _ _ (cond-false (is_holder plan p i) _ _ lacks ∙ took.sums i li ∙ ap (λ y. y % q) (let e = tally_of reads i li lacks in let f : 0 + tally l i ns ≡ sent i = omega (arith, e) in f)))
          (same_trans (same_mod q (sent i)) (same_refl _ _ _ (ap (λ n. got (key w got s p h n i (holder_of plan i) p)) (sym (number_is w got s p h k z at lk)) ∙ sym (cond-false (is_holder plan p i) _ _ lacks))))
    ]))

    same_drawn : words_before plan p s (suc k) ≡ words_before plan p s k
    same_drawn = more_words w got s p h k z at ∙ (let none = kind.words in omega (arith, none))

    -- one instruction ends it
    opening_slot : (e : Instruction) (R : State → Type 0) → closing plan p s k z ≡ e ∷ [] → Goes w got s p e taken → R (next l e taken) → Doing w got s p h k R σ
    opening_slot e R closes goes after' =
        own_leaves w got s p h k z kind.own at lk σ σ (λ ρ. ρ ≡ taken) R
        (subst (λ ys. Leaving ys (λ τ. τ ≡ σ) σ) (sym (kind.opens k)) (tt, refl))
        sends refl
        (λ ρ same. subst (λ y. Leaving y R ρ) (sym closes) (subst (Leaving (e ∷ []) R) (sym same) ((goes, tt), after')))

    -- a party to which nothing is opened takes nothing
    unread_slot : opens_to plan s p z ≡ false → (R : State → Type 0) → closing plan p s k z ≡ [] → R σ → Doing w got s p h k R σ
    unread_slot not' R closes after' =
        let none : taken ≡ σ = none_taken w got s p h ns σ (every_filter _ _ (to plan p) (numbers plan s k) all (λ n f e. both_ways (opens_to plan s p z) not' (subst (λ y. opens_to plan s y z ≡ true) (eqb-true _ _ e) f.1.2))) in
        own_leaves w got s p h k z kind.own at lk σ σ (λ ρ. ρ ≡ σ) R
        (subst (λ ys. Leaving ys (λ τ. τ ≡ σ) σ) (sym (kind.opens k)) (tt, refl))
        sends none
        (λ ρ same. subst (λ y. Leaving y R ρ) (sym closes) (tt, subst R (sym same) after'))

  -- ---- masked wires

  -- what this side has more than its mask was opened, and nothing else is new but what the state counts
  pub record Showed (side : Side) (v k count : ℕ) (σ τ : State) : Type 0 where
    pub rows : τ.rows ≡ σ.rows
    pub outputs : τ.outputs ≡ σ.outputs
    pub excess : τ.excess ≡ set_side σ.excess side v
    pub ready : Ready w got s p h k count τ

  masked_kind : (t : ℕ) (side : Side) → IsOpeningSlot (Masked t side) (excess_of plan s t side) (masked (scheme plan) (summands run t (operand (gate x t) side)) (local_mask w got p s t side))
  masked_kind t side = record {
    keys = λ k. refl;
    opens = λ k. refl;
    adds = tt;
    own = record { all = λ k. refl; same = refl };
    word = λ k i r. refl;
    sent = λ i σ. refl;
    words = refl;
    by_rows = λ σ τ i e. ap (λ (f : ℕ → ℕ → ℕ). difference (scheme plan).modulus (f (operand (gate x t) side) i) (f (mask_wire x t side) i)) e;
  }

  pub masked_wire : (t : ℕ) (side : Side) (k count : ℕ) → slot w.plan s k ≡ Masked t side → k < slots w.plan s → (σ : State) → Ready w got s p h k count σ
      → Has w got s p h σ (operand (gate (session w.plan s) t) side) (summands (local_run w got p s) t (operand (gate (session w.plan s) t) side)) → Has w got s p h σ (mask_wire (session w.plan s) t side) (local_mask w got p s t side)
      → Doing w got s p h k (Showed side (local_excess w got p s t side (summands (local_run w got p s) t (operand (gate (session w.plan s) t) side))) (suc k) count σ) σ
  masked_wire t side k count at lk σ ready wire mask' =
      let z : Slot = Masked t side in
      let held : State → ℕ → ℕ = excess_of plan s t side in
      let value : ℕ → ℕ = masked (scheme plan) (summands run t (operand (gate x t) side)) (local_mask w got p s t side) in
      let kind = masked_kind t side in
      let holding : (i : ℕ) → i < m → is_holder plan p i ≡ true → held σ i ≡ value i = λ i li has. ap₂ (λ a b. difference (scheme plan).modulus a b) (wire i li has) (mask' i li has) in
      let τ : State = taken z held value kind k count at lk σ ready holding in
      let t' = took z held value kind k count at lk σ ready holding in
      let is = opened_is z held value kind k count at lk σ ready holding refl in
      let R : State → Type 0 = Showed side (local_excess w got p s t side (summands run t (operand (gate x t) side))) (suc k) count σ in
      let does : next l (Open k) τ ≡ opened_in plan p s z τ = ap (λ y. opened_in plan p s y τ) at in
      let after' : R (opened_in plan p s z τ) = record {
        rows = t'.rows;
        outputs = t'.outputs;
        excess = ap₂ (λ (f : Side → ℕ) (a : ℕ). set_side f side a) t'.excess is;
        ready = record { sums = λ i li. refl; drawn = t'.drawn ∙ ready.drawn ∙ sym (same_drawn z held value kind k count at lk σ ready holding); given = t'.given ∙ ready.given };
      } in
      opening_slot z held value kind k count at lk σ ready holding (Open k) R refl
      (record { slot = lk; kind = subst IsMasked (sym at) tt }, subst (λ y. OpensExcess w got s p y τ) (sym at) is) (subst R (sym does) after')

  -- ---- outputs

  -- the output was delivered, if p reads it, and nothing else is new
  pub record Delivered (o k count : ℕ) (σ τ : State) : Type 0 where
    pub rows : τ.rows ≡ σ.rows
    pub others : (u : ℕ) → u ≢ o → τ.outputs u ≡ σ.outputs u
    pub here : opens_to w.plan s p (Output o) ≡ true → τ.outputs o ≡ Some (local_output w got p s o)
    pub ready : Ready w got s p h k count τ

  abbrev last : ℕ → ℕ → ℕ
  last = summands run (length x.gates)

  output_kind : (o : ℕ) → IsOpeningSlot (Output o) (λ σ. σ.rows (output_wire x o)) (last (output_wire x o))
  output_kind o = record {
    keys = λ k. refl;
    opens = λ k. refl;
    adds = tt;
    own = record { all = λ k. refl; same = refl };
    word = λ k i r. refl;
    sent = λ i σ. refl;
    words = refl;
    by_rows = λ σ τ i e. ap (λ (f : ℕ → ℕ → ℕ). f (output_wire x o) i) e;
  }

  pub output_slot : (o k count : ℕ) → slot w.plan s k ≡ Output o → k < slots w.plan s → (σ : State) → Ready w got s p h k count σ
      → Has w got s p h σ (output_wire (session w.plan s) o) (summands (local_run w got p s) (length (session w.plan s).gates) (output_wire (session w.plan s) o))
      → Doing w got s p h k (Delivered o (suc k) count σ) σ
  output_slot o k count at lk σ ready holding =
      let z : Slot = Output o in
      let held : State → ℕ → ℕ = λ σ. σ.rows (output_wire x o) in
      let value : ℕ → ℕ = last (output_wire x o) in
      let kind = output_kind o in
      let R : State → Type 0 = Delivered o (suc k) count σ in
      let words = same_drawn z held value kind k count at lk σ ready holding in
      elim (cases_Bool (opens_to plan s p z)) [
        | inl reads ↦
            let τ : State = taken z held value kind k count at lk σ ready holding in
            let t' = took z held value kind k count at lk σ ready holding in
            let is = opened_is z held value kind k count at lk σ ready holding reads in
            let does : next l (Deliver k) τ ≡ delivered plan p (output_wire x o) o τ = ap (λ y. delivered plan p (output_wire x (output_in_slot y)) (output_in_slot y) τ) at in
            let after' : R (delivered plan p (output_wire x o) o τ) = record {
              rows = t'.rows;
              others = λ u ne. set_there τ.outputs o u _ ne ∙ ap (λ f. f u) t'.outputs;
              here = λ r. set_here τ.outputs o o _ refl ∙ ap Some is;
              ready = record { sums = λ i li. refl; drawn = t'.drawn ∙ ready.drawn ∙ sym words; given = t'.given ∙ ready.given };
            } in
            opening_slot z held value kind k count at lk σ ready holding (Deliver k) R (cond-true (opens_to plan s p z) (Deliver k ∷ []) [] reads)
            (record { slot = lk; kind = subst IsOutput (sym at) tt }, subst (λ y. OpensRight w got s p (output_in_slot y) τ) (sym at) (reads, is)) (subst R (sym does) after')
        | inr not' ↦
            unread_slot z held value kind k count at lk σ ready holding not' R (cond-false (opens_to plan s p z) (Deliver k ∷ []) [] not')
            (record {
              rows = refl;
              others = λ u ne. refl;
              here = λ r. absurd (both_ways (opens_to plan s p z) not' r);
              ready = record { sums = ready.sums; drawn = ready.drawn ∙ sym words; given = ready.given };
            })
      ]
