-- What a party does in a slot of an input, or of a mask: its words are put into a row.
use Rattle.std.proofs.Common.{◌≡◌, ◌≢◌, ℕ, suc, ◌+◌, ◌-◌, ◌<◌, true, false, nat_eq, nat_lt, if◌then◌else◌, List, [], ◌∷◌, length, refl, sym, ap, ◌∙◌, subst, arith}
use Rattle.std.specs.Prelude.{slice_index, slice_index_or}
use Rattle.std.specs.List.{AllByRecursion, filter}
use Rattle.std.proofs.lemmas.Bool.{cases_eq, cases_lt, cond-true, cond-false, eq-eqb, ne_eqb, eqb-true, lt-ltb, le-ltb}
use mathlib.Core.Logic.{inl, inr}
use Rattle.list_laws.specs.Lists.{joined}
use Rattle.circuit_model.proofs.SetAt.{set_here, set_there}
use Rattle.secret_sharing.specs.Schemes.{Run, dealt}
use Rattle.secret_sharing.proofs.SummandSums.{dealt_eq}
use Rattle.session_slots.specs.declared.side.Side.{Side}
use Rattle.session_slots.specs.declared.source.Source.{Source}
use Rattle.session_slots.specs.declared.source.Source.TheVariants.{Given as GivenBy}
use Rattle.session_slots.specs.Sessions.{Session, Slot, given_by, owners, source, mask_wire}
use Rattle.session_slots.specs.Sessions.Slot.{Input, Mask}
use Rattle.plan_model.specs.Plans.{Plan, scheme, session, slot, slots, is_holder, given_before, holder_of, least_held, deals_in, words_in, words_before}
use Rattle.plan_model.specs.declared.key.Key.{Key}
use Rattle.plan_model.specs.Firsts.{numbers}
use Rattle.plan_model.specs.Messages.{slot_messages, deal_message, input_messages}
use Rattle.plan_model.specs.Numbers.{message, deals_before}
use Rattle.plan_model.proofs.SlotMessages.{every_filter, keys_are}
use Rattle.plan_model.proofs.TapePlaces.{held_within}
use Rattle.share_world.specs.Worlds.{World, tape_word, input_of, source_input}
use Rattle.share_world.specs.Locals.{local_mask, local_run, local_source, local_word_in}
use Rattle.program_model.specs.declared.instruction.Instruction.{Instruction}
use Rattle.program_model.specs.declared.instruction.Instruction.TheVariants.{Draw, Deal}
use Rattle.program_model.specs.Programs.{from, to, input_taken, opening, closing}
use Rattle.program_model.specs.States.{Given, State, next, after_all, posted, dealt_in, drawn_in, word_after}
use Rattle.program_model.specs.Proper.{Deals, IsMask}
use Rattle.program_model.proofs.InstructionLists.{Leaves}
use Rattle.program_laws.specs.Meets.{local_given, IsNextInput, Goes}
use Rattle.program_laws.proofs.ProductSlots.{Doing}
use Rattle.program_laws.proofs.SlotRuns.{Runs, number_is, word_is, more_words, Ready, Rowed, key, In, numbered, RowBy, all_rows, slot_is, word_of, idle, TakesOwn, own_takes, taking_is, own_leaves}
use Rattle.program_laws.proofs.SlotTakes.{Writes, RowOf, Has, takes_row}
use Rattle.program_laws.proofs.SlotTallies.{Any, any_number, row_any}

module _ (w : World) (got : Key → ℕ) (s p : ℕ) (h : Runs w s p) where
  abbrev plan : Plan
  plan = w.plan

  abbrev x : Session
  x = session w.plan s

  abbrev m : ℕ
  m = length w.plan.groups

  abbrev l : Given
  l = local_given w got s p

  abbrev run : Run
  run = local_run w got p s

  abbrev Leaving : List Instruction → (State → Type 0) → State → Type 0
  Leaving es R σ = Leaves (Goes w got s p) l es R σ

  -- summands that are dealt each by a sender of its own, into row v: p has its own when the posts are made, and takes the
  -- others
  module _ (z : Slot) (sender : ℕ → ℕ) (v : ℕ) (value : ℕ → ℕ) (k count : ℕ) (at : slot w.plan s k ≡ z) (lk : k < slots w.plan s)
      (keys : slot_messages w.plan s k z ≡ joined (length w.plan.groups) (λ i. joined w.plan.parties (deal_message w.plan s k (sender i) i)))
      (own : TakesOwn w got s p h z) (closes : closing w.plan p s k z ≡ []) (writes : Writes (local_given w got s p) z v)
      (sent : (i : ℕ) (σ : State) → posted w.plan s z i σ ≡ σ.rows v i)
      (word : (i r : ℕ) → sender i ≡ p → local_word_in w got p (key w got s p h k i p r) z ≡ value i)
      (theirs : (i : ℕ) → sender i ≢ p → value i ≡ got (key w got s p h k i (sender i) p)) where
    abbrev ns : List ℕ
    ns = filter (to plan p) (numbers plan s k)

    abbrev By : Key → Type 0
    By = RowBy w got s p h k sender

    all : AllByRecursion (In w got s p h By) (numbers plan s k)
    all = numbered w got s p h k z By at lk (subst (AllByRecursion By) (sym keys) (all_rows w got s p h k sender))

    has : (i : ℕ) → i < m → is_holder plan p i ≡ true → sender i ≢ p → Has plan i ns
    has i li held ne = any_number plan p i (numbers plan s k)
        (subst (Any p i) (sym (keys_are plan s k h.session_there lk ∙ ap (slot_messages plan s k) at ∙ keys)) (row_any plan s k sender p i h.party_there li (λ e. ne (sym e)) held))

    pub row_slot : (σ σ1 : State) → ((u i : ℕ) → u ≢ v → σ1.rows u i ≡ σ.rows u i) → ((i : ℕ) → i < length w.plan.groups → sender i ≡ p → σ1.rows v i ≡ value i)
        → σ1.outputs ≡ σ.outputs → σ1.excess ≡ σ.excess → Ready w got s p h (suc k) count σ1
        → Leaves (Goes w got s p) (local_given w got s p) (opening w.plan p s k z) (λ τ. τ ≡ σ1) σ → Doing w got s p h k (Rowed w got s p h v value (suc k) count σ) σ
    row_slot σ σ1 others mine outputs excess ready opens =
        let τ : State = after_all l (own_takes w got s p h k) σ1 in
        let R : State → Type 0 = Rowed w got s p h v value (suc k) count σ in
        let row : RowOf l v ns value σ1 τ = takes_row l z v ns value σ1 writes (every_filter _ _ (to plan p) (numbers plan s k) all (λ n f e.
        let i : ℕ = (message plan n).share in
        let receiver : (message plan n).receiver ≡ p = eqb-true _ _ e in (
          taking_is w got s p h k z n _ _ _ own at f.1.0,
          ap got (f.1.0 ∙ ap (λ a. key w got s p h k i (sender i) a) receiver) ∙ sym (theirs i (λ same. f.1.2 (receiver ∙ sym same))),
        ))) in
        let after' : R τ = record {
          others = λ u i ne. row.others u i ne ∙ others u i ne;
          here = λ i li held. elim (cases_eq (sender i) p) [ inl e ↦ row.kept i (mine i li e) | inr ne ↦ row.has i (has i li held ne) ];
          outputs = row.outputs ∙ outputs;
          excess = row.excess ∙ excess;
          ready = record { sums = λ i li. ap (λ g. g i) row.sums ∙ ready.sums i li; drawn = row.drawn ∙ ready.drawn; given = row.given ∙ ready.given };
        } in
        own_leaves w got s p h k z own at lk σ σ1 (λ ρ. ρ ≡ τ) R opens
        (every_filter _ _ (from plan p) (numbers plan s k) all (λ n f e.
        let i : ℕ = (message plan n).share in
        let r : ℕ = (message plan n).receiver in
        let from' : (message plan n).sender ≡ p = eqb-true _ _ e in
        let own : sender i ≡ p = sym (ap (λ (y : Key). y.sender) f.1.0) ∙ from' in (
          from',
          ap (λ a. posted plan s a i σ1) (slot_is w got s p h k z n _ _ _ at f.1.0) ∙ sent i σ1 ∙ mine i f.1.1 own
              ∙ sym (word i r own)
              ∙ ap (λ a. local_word_in w got p (key w got s p h k i a r) z) (sym own)
              ∙ sym (word_of w got s p h k z n i (sender i) r at f.1.0),
        )))
        refl
        (λ ρ e. subst (λ ys. Leaving ys R ρ) (sym closes) (tt, subst R (sym e) after'))

  -- ---- inputs

  -- the summands with which a party starts of an input wire with this source
  pub start_is : (v : ℕ) (o : Source) → v < length (owners (session w.plan s)) → source (session w.plan s) v ≡ o → (i : ℕ) → (local_run w got p s).start v i ≡ local_source w got p s v o i
  start_is v o lv is i = cond-true (nat_lt v (length (owners x))) _ 0 (lt-ltb v (length (owners x)) lv) ∙ ap (λ a. local_source w got p s v a i) is

  -- who doesn't deal the input goes on as it is
  pub undealt : (v k count : ℕ) → slot w.plan s k ≡ Input v → deals_in w.plan s p (Input v) ≡ false → (σ : State) → Ready w got s p h k count σ
      → Ready w got s p h (suc k) count σ × Leaves (Goes w got s p) (local_given w got s p) (opening w.plan p s k (Input v)) (λ τ. τ ≡ σ) σ
  undealt v k count at none σ ready = (
    idle w got s p h k count (Input v) σ at (cond-false (deals_in plan s p (Input v)) (m - 1) 0 none) ready,
    subst (λ ys. Leaving ys (λ τ. τ ≡ σ) σ) (sym (cond-false (deals_in plan s p (Input v)) (Deal k (deals_before plan p s k) ∷ []) [] none)) (tt, refl),
  )

  module _ (v q k count : ℕ) (is : source (session w.plan s) v ≡ GivenBy q) (at : slot w.plan s k ≡ Input v) (lk : k < slots w.plan s) (lv : v < length (owners (session w.plan s))) (σ : State) (ready : Ready w got s p h k count σ) where
    abbrev z : Slot
    z = Input v

    abbrev value : ℕ → ℕ
    value = run.start v

    own_start : (i : ℕ) → q ≡ p → value i ≡ dealt (scheme plan) (input_of w s v) (tape_word w s z p) i
    own_start i e = start_is v (GivenBy q) lv is i ∙ cond-true (nat_eq q p) _ _ (eq-eqb q p e)

    other_start : (i : ℕ) → q ≢ p → value i ≡ got (key w got s p h k i q p)
    other_start i ne = start_is v (GivenBy q) lv is i ∙ cond-false (nat_eq q p) _ _ (ne_eqb q p ne) ∙ ap (λ n. got (key w got s p h n i q p)) (number_is w got s p h k z at lk)

    own : TakesOwn w got s p h (Input v)
    own = record { all = λ j. ap (input_taken plan s j v) is; same = refl }

    rows : (n : ℕ) (σ1 : State) → ((u i : ℕ) → u ≢ v → σ1.rows u i ≡ σ.rows u i) → ((i : ℕ) → i < m → q ≡ p → σ1.rows v i ≡ value i) → σ1.outputs ≡ σ.outputs → σ1.excess ≡ σ.excess → Ready w got s p h (suc k) n σ1
        → Leaving (opening plan p s k z) (λ τ. τ ≡ σ1) σ → Doing w got s p h k (Rowed w got s p h v value (suc k) n σ) σ
    rows n σ1 = row_slot z (λ i. q) v value k n at lk (ap (input_messages plan s k) is) own refl (λ i a τ. refl) (λ i τ. refl) (λ i r e. sym (own_start i e)) other_start σ σ1

    pub own_input : q ≡ p → count ≡ given_before w.plan p s v → Doing w got s p h k (Rowed w got s p h v ((local_run w got p s).start v) (suc k) (count + 1) σ) σ
    own_input e before =
        let d : ℕ = deals_before plan p s k in
        let deals' : deals_in plan s p z ≡ true = ap (given_by p) is ∙ eq-eqb q p e in
        let many : words_in plan s p z ≡ m - 1 = cond-true (deals_in plan s p z) (m - 1) 0 deals' in
        let words : ℕ → ℕ = word_after l σ.drawn in
        let new : ℕ → ℕ = dealt (scheme plan) (slice_index l.inputs σ.given) words in
        let σ1 : State = dealt_in plan s words (slice_index l.inputs σ.given) z σ in
        let does : next l (Deal k d) σ ≡ σ1 = ap (λ y. dealt_in plan s words (slice_index l.inputs σ.given) y σ) at in
        let input : slice_index l.inputs σ.given ≡ input_of w s v =
        ap (slice_index l.inputs) (ready.given ∙ before)
        ∙ ap (λ a. slice_index (slice_index_or (slice_index_or w.inputs a []) s []) (given_before plan a s v)) (sym e)
        ∙ sym (ap (source_input w s v) is) in
        let new_is : (i : ℕ) → new i ≡ value i = λ i.
        ap (λ a. dealt (scheme plan) a words i) input
        ∙ dealt_eq (scheme plan) (input_of w s v) words (tape_word w s z p) i (λ j lj. word_is w got s p h k z j σ.drawn at lk (omega (arith, lj, many)) ready.drawn)
        ∙ sym (own_start i e) in
        rows (count + 1) σ1 (λ u i ne. ap (λ f. f i) (set_there σ.rows v u new ne)) (λ i li own. ap (λ f. f i) (set_here σ.rows v v new refl) ∙ new_is i) refl refl
        (record {
          sums = ready.sums;
          drawn = ap (λ a. a + (m - 1)) ready.drawn ∙ sym (more_words w got s p h k z at ∙ ap (λ a. words_before plan p s k + a) many);
          given = ap (λ a. a + 1) ready.given;
        })
        (subst (λ ys. Leaving ys (λ τ. τ ≡ σ1) σ) (sym (cond-true (deals_in plan s p z) (Deal k d ∷ []) [] deals'))
        (((record { slot = lk; kind = subst Deals (sym at) tt }, (ready.drawn, lk, ap (deals_in plan s p) at ∙ deals', subst (λ y. IsNextInput plan s p y σ.given) (sym at) (ready.given ∙ before))), tt), does))

    pub other_input : q ≢ p → Doing w got s p h k (Rowed w got s p h v ((local_run w got p s).start v) (suc k) count σ) σ
    other_input ne =
        let on = undealt v k count at (ap (given_by p) is ∙ ne_eqb q p ne) σ ready in
        rows count σ (λ u i other. refl) (λ i li e. absurd (ne e)) refl refl on.0 on.1

  -- ---- masks

  pub mask_slot : (t : ℕ) (side : Side) (k count : ℕ) → slot w.plan s k ≡ Mask t side → k < slots w.plan s → (σ : State) → Ready w got s p h k count σ
      → Doing w got s p h k (Rowed w got s p h (mask_wire (session w.plan s) t side) (local_mask w got p s t side) (suc k) count σ) σ
  mask_slot t side k count at lk σ ready =
      let z : Slot = Mask t side in
      let v : ℕ = mask_wire x t side in
      let value : ℕ → ℕ = local_mask w got p s t side in
      let mine : (i : ℕ) → holder_of plan i ≡ p → value i ≡ tape_word w s z p (least_held plan p i) = λ i e. cond-true (nat_eq (holder_of plan i) p) _ _ (eq-eqb (holder_of plan i) p e) ∙ ap (λ a. tape_word w s z a (least_held plan a i)) e in
      let theirs : (i : ℕ) → holder_of plan i ≢ p → value i ≡ got (key w got s p h k i (holder_of plan i) p) = λ i ne. cond-false (nat_eq (holder_of plan i) p) _ _ (ne_eqb (holder_of plan i) p ne) ∙ ap (λ n. got (key w got s p h n i (holder_of plan i) p)) (number_is w got s p h k z at lk) in
      let more : words_before plan p s (suc k) ≡ words_before plan p s k + least_held plan p m = more_words w got s p h k z at in
      let rows = row_slot z (holder_of plan) v value k count at lk refl (record { all = λ j. refl; same = refl }) refl (λ i a τ. refl) (λ i τ. refl) (λ i r e. refl) theirs σ in
      elim (cases_lt 0 (least_held plan p m)) [
        | inl some ↦
            let words : ℕ → ℕ = word_after l σ.drawn in
            let new : ℕ → ℕ = λ i. if nat_eq (holder_of plan i) p then words (least_held plan p i) else σ.rows v i in
            let σ1 : State = drawn_in plan p s words z σ in
            let does : next l (Draw k) σ ≡ σ1 = ap (λ y. drawn_in plan p s words y σ) at in
            rows σ1 (λ u i ne. ap (λ f. f i) (set_there σ.rows v u new ne))
            (λ i li e. ap (λ f. f i) (set_here σ.rows v v new refl) ∙ cond-true (nat_eq (holder_of plan i) p) _ _ (eq-eqb (holder_of plan i) p e)
            ∙ word_is w got s p h k z (least_held plan p i) σ.drawn at lk (counted i li e) ready.drawn ∙ sym (mine i e))
            refl refl
            (record { sums = ready.sums; drawn = ap (λ a. a + least_held plan p m) ready.drawn ∙ sym more; given = ready.given })
            (subst (λ ys. Leaving ys (λ τ. τ ≡ σ1) σ) (sym (cond-true (nat_lt 0 (words_in plan s p z)) (Draw k ∷ []) [] (lt-ltb 0 (words_in plan s p z) some)))
            (((record { slot = lk; kind = subst IsMask (sym at) tt }, (ready.drawn, lk)), tt), does))
        | inr none ↦
            rows σ (λ u i ne. refl) (λ i li e. absurd (let less = counted i li e in omega (arith, less, none))) refl refl
            (record { sums = ready.sums; drawn = ready.drawn ∙ sym (more ∙ omega (arith, none)); given = ready.given })
            (subst (λ ys. Leaving ys (λ τ. τ ≡ σ) σ) (sym (cond-false (nat_lt 0 (words_in plan s p z)) (Draw k ∷ []) [] (le-ltb 0 (words_in plan s p z) none))) (tt, refl))
      ]
    where
      counted : (i : ℕ) → i < m → holder_of plan i ≡ p → least_held plan p i < least_held plan p m
      counted i li e = subst (λ a. least_held plan a i < least_held plan a m) e (held_within plan i m li)
