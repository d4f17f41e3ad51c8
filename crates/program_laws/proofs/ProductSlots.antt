-- What a party does in a slot of a gate, or of a product of masks.
use Rattle.std.proofs.Common.{◌≡◌, ◌≢◌, ℕ, suc, ◌+◌, ◌-◌, ◌*◌, ◌%◌, ◌<◌, ◌^◌, Bool, true, false, not, ◌&&◌, nat_eq, if◌then◌else◌, List, [], ◌∷◌, ◌++◌, length, refl, sym, ap, ap₂, ◌∙◌, subst, arith, append-nil}
use Rattle.std.specs.Prelude.{slice_index}
use Rattle.std.specs.List.{AllByRecursion, filter}
use Rattle.std.proofs.lemmas.Bool.{cases_Bool, cond-true, cond-false, eq-eqb, ne_eqb, eqb-true, and_parts, both_ways, not-true}
use Rattle.std.proofs.Math.Nat.{mod-eq_of_lt, mod-add-mod}
use mathlib.Core.Logic.{inl, inr}
use Rattle.list_laws.specs.Lists.{total, only_if}
use Rattle.list_laws.proofs.Totals.{total_eq, total_one}
use Rattle.circuit_model.specs.declared.gate.Gate.{Gate}
use Rattle.circuit_model.specs.Circuits.{is_product, set_at}
use Rattle.circuit_model.proofs.SetAt.{set_here, set_there}
use Rattle.secret_sharing.specs.Schemes.{Run, dealt, own_product, has_pair, local, product_summand, gate_summands, summands}
use Rattle.secret_sharing.specs.Prepared.{joined_summand}
use Rattle.secret_sharing.proofs.SummandSums.{dealt_eq}
use Rattle.session_slots.specs.declared.side.Side.TheVariants.{First, Second}
use Rattle.session_slots.specs.Sessions.{Session, Slot, gate, is_direct, is_prepared, mask_wire, product_wire, product_in}
use Rattle.session_slots.specs.Sessions.Slot.{At_gate, Mask_product}
use Rattle.plan_model.specs.Plans.{Plan, scheme, session, slot, slots, is_holder, deals_in, words_in, words_before}
use Rattle.plan_model.specs.declared.key.Key.{Key}
use Rattle.plan_model.specs.Firsts.{numbers}
use Rattle.plan_model.specs.Messages.{slot_messages, deal_messages, product_messages}
use Rattle.plan_model.specs.Numbers.{message, deals_before}
use Rattle.plan_model.proofs.SlotMessages.{every_filter, keys_are}
use Rattle.share_world.specs.Worlds.{World, tape_word}
use Rattle.share_world.specs.Locals.{key_at, local_deal, local_mask, local_mask_product, local_excess, local_run, local_word_in}
use Rattle.share_world.proofs.LocalWords.{holder_own}
use Rattle.program_model.specs.declared.instruction.Instruction.{Instruction}
use Rattle.program_model.specs.declared.instruction.Instruction.TheVariants.{Deal, Linear, Own, Sum, Join}
use Rattle.program_model.specs.Programs.{from, to, post, opening, closing, slot_program}
use Rattle.program_model.specs.States.{Given, State, next, after_all, posted, dealt_as, dealt_in, multiplied, summed, computed, joined_in, word_after}
use Rattle.program_model.specs.Proper.{Deals, IsGate, Multiplies}
use Rattle.program_model.proofs.InstructionLists.{Leaves}
use Rattle.program_laws.specs.Meets.{local_given, RightAt, IsNextInput, Goes}
use Rattle.program_laws.proofs.SlotRuns.{Runs, valid, positive, number_is, word_is, more_words, Ready, Rowed, key, In, numbered, DealtBy, all_dealt, slot_is, word_of, none_taken, TakesOwn, own_takes, taking_is, own_leaves}
use Rattle.program_laws.proofs.SlotTakes.{Adds, SumsOf, tally, takes_sums}
use Rattle.program_laws.proofs.SlotTallies.{key_tally, tally_is, key_tally-joined, key_tally-only_if, deal_tally, no_words}

module _ (w : World) (got : Key → ℕ) (s p : ℕ) (h : Runs w s p) where
  abbrev plan : Plan
  plan = w.plan

  abbrev x : Session
  x = session w.plan s

  abbrev m : ℕ
  m = length w.plan.groups

  abbrev q : ℕ
  q = 2 ^ w.plan.bits

  abbrev l : Given
  l = local_given w got s p

  abbrev run : Run
  run = local_run w got p s

  -- p's program of slot k leaves this
  abbrev pub Doing : ℕ → (State → Type 0) → State → Type 0
  Doing k R σ = Leaves (Goes w got s p) (local_given w got s p) (slot_program w.plan p s k) R σ

  -- ---- a product that is dealt: of a gate, or of masks

  -- what is the same of both kinds, where p has these summands of the two that are multiplied
  pub record IsProductSlot (z : Slot) (a b : ℕ → ℕ) : Type 0 where
    pub deals : (r : ℕ) → deals_in plan s r z ≡ has_pair (scheme plan) r
    pub keys : (k : ℕ) → slot_messages plan s k z ≡ product_messages plan s k z
    pub opens : (k : ℕ) → opening plan p s k z ≡ only_if (has_pair (scheme plan) p) (Own k ∷ Deal k (deals_before plan p s k) ∷ [])
    pub closes : (k : ℕ) → closing plan p s k z ≡ Sum k ∷ []
    pub adds : Adds z
    pub own : TakesOwn w got s p h z
    pub word : (k i r : ℕ) → local_word_in w got p (key w got s p h k i p r) z ≡ dealt (scheme plan) (own_product (scheme plan) p a b) (tape_word w s z p) i
    pub sent : (i : ℕ) (σ : State) → posted plan s z i σ ≡ σ.rows (product_in x z).output i
    pub made : (words : ℕ → ℕ) (input : ℕ) (σ : State) → dealt_in plan s words input z σ ≡ dealt_as plan words σ.own (product_in x z).output σ
    pub words : words_in plan s p z ≡ (if has_pair (scheme plan) p then m - 1 else 0)
    pub is_product : Multiplies z
    pub is_dealt : Deals z
    pub next_input : (count : ℕ) → IsNextInput plan s p z count

  direct_kind : (t : ℕ) → is_direct x t ≡ true → IsProductSlot (At_gate t) (summands run t (gate x t).first) (summands run t (gate x t).second)
  direct_kind t is =
      let both = and_parts (not x.prepared) (is_product (gate x t).operation) is in
      let deals' : (r : ℕ) → deals_in plan s r (At_gate t) ≡ has_pair (scheme plan) r = λ r. ap (λ b. b && has_pair (scheme plan) r) is in
      record {
        deals = deals';
        keys = λ k. refl;
        opens = λ k. ap₂ (λ b c. only_if b (Own k ∷ Deal k (deals_before plan p s k) ∷ []) ++ only_if (not c) (Linear k ∷ [])) (deals' p) both.1 ∙ append-nil _;
        closes = λ k. ap₂ (λ b c. only_if b (Sum k ∷ []) ++ only_if c (Join k ∷ [])) is (ap (λ a. a && is_product (gate x t).operation) (not-true x.prepared both.0));
        adds = tt;
        own = record { all = λ k. refl; same = refl };
        word = λ k i r. refl;
        sent = λ i σ. refl;
        made = λ words input σ. refl;
        words = ap (λ b. if b then m - 1 else 0) (deals' p);
        is_product = tt;
        is_dealt = tt;
        next_input = λ count. tt;
      }

  masks_kind : (t : ℕ) → IsProductSlot (Mask_product t) (local_mask w got p s t First) (local_mask w got p s t Second)
  masks_kind t = record {
    deals = λ r. refl;
    keys = λ k. refl;
    opens = λ k. refl;
    closes = λ k. refl;
    adds = tt;
    own = record { all = λ k. refl; same = refl };
    word = λ k i r. refl;
    sent = λ i σ. refl;
    made = λ words input σ. refl;
    words = refl;
    is_product = tt;
    is_dealt = tt;
    next_input = λ count. tt;
  }

  module _ (z : Slot) (a b : ℕ → ℕ) (kind : IsProductSlot z a b) (k count : ℕ) (at : slot w.plan s k ≡ z) (lk : k < slots w.plan s) (σ : State) (ready : Ready w got s p h k count σ)
      (first : (i : ℕ) → i < length w.plan.groups → is_holder w.plan p i ≡ true → σ.rows (product_in (session w.plan s) z).first i ≡ a i)
      (second : (i : ℕ) → i < length w.plan.groups → is_holder w.plan p i ≡ true → σ.rows (product_in (session w.plan s) z).second i ≡ b i) where
    abbrev g : Gate
    g = product_in x z

    abbrev pairs : Bool
    pairs = has_pair (scheme plan) p

    abbrev mine : ℕ → ℕ
    mine = dealt (scheme plan) (own_product (scheme plan) p a b) (tape_word w s z p)

    abbrev begun : ℕ → ℕ
    begun i = if pairs then mine i else 0

    abbrev ns : List ℕ
    ns = filter (to plan p) (numbers plan s k)

    abbrev product : ℕ → ℕ
    product = product_summand (scheme plan) (local_deal w got p s z) a b

    all : AllByRecursion (In w got s p h (DealtBy w got s p h k z)) (numbers plan s k)
    all = numbered w got s p h k z (DealtBy w got s p h k z) at lk (subst (AllByRecursion (DealtBy w got s p h k z)) (sym (kind.keys k)) (all_dealt w got s p h k z))

    others : ℕ → ℕ → ℕ
    others i r = if has_pair (scheme plan) r then (if nat_eq r p then 0 else got (key w got s p h k i r p)) else 0

    tally_of : (i : ℕ) → i < m → is_holder plan p i ≡ true → tally l i ns ≡ total plan.parties (others i)
    unfolding others
    tally_of i li held =
        tally_is l got p i (numbers plan s k) (λ n. refl)
        ∙ ap (key_tally got p i) (keys_are plan s k h.session_there lk)
        ∙ ap (λ y. key_tally got p i (slot_messages plan s k y)) at
        ∙ ap (key_tally got p i) (kind.keys k)
        ∙ key_tally-joined got p i plan.parties (λ r. only_if (deals_in plan s r z) (deal_messages plan s k r))
        ∙ total_eq plan.parties _ _ (λ r lr. key_tally-only_if got p i (deals_in plan s r z) (deal_messages plan s k r)
        ∙ ap₂ (λ c y. if c then y else 0) (kind.deals r) (deal_tally plan got s k p i h.party_there li held r))

    sums : (i : ℕ) → i < m → is_holder plan p i ≡ true → (begun i + tally l i ns) % q ≡ product i
    unfolding others
    sums i li held =
        let each : ℕ → ℕ = λ r. if has_pair (scheme plan) r then local_deal w got p s z r (own_product (scheme plan) r a b) i else 0 in
        let here : each p ≡ begun i = ap (λ y. if pairs then y else 0) (cond-true (nat_eq p p) _ _ (eq-eqb p p refl)) in
        let none : others i p ≡ 0 = ap (λ y. if pairs then y else 0) (cond-true (nat_eq p p) 0 _ (eq-eqb p p refl)) ∙ no_words pairs in
        let there : (r : ℕ) → got (key w got s p h k i r p) ≡ got (key_at plan s z i r p) = λ r. ap (λ n. got (key w got s p h n i r p)) (sym (number_is w got s p h k z at lk)) in
        let one : total plan.parties (others i) + each p ≡ total plan.parties each + others i p = total_one plan.parties p (others i) each h.party_there (λ r lr ne.
        ap (λ y. if has_pair (scheme plan) r then y else 0) (cond-false (nat_eq r p) 0 _ (ne_eqb r p ne) ∙ there r ∙ sym (cond-false (nat_eq r p) _ (got (key_at plan s z i r p)) (ne_eqb r p ne)))) in
        let e = tally_of i li held in
        let same : begun i + tally l i ns ≡ total plan.parties each = omega (arith, here, none, one, e) in
        ap (λ y. y % q) same

    -- from the state in which the posts are made
    rest : (σ2 : State) → ((u i : ℕ) → u ≢ g.output → σ2.rows u i ≡ σ.rows u i) → σ2.outputs ≡ σ.outputs → σ2.excess ≡ σ.excess → σ2.given ≡ σ.given → σ2.sums ≡ σ.sums
        → (pairs ≡ true → (i : ℕ) → σ2.rows g.output i ≡ mine i) → σ2.drawn ≡ words_before plan p s (suc k)
        → Leaves (Goes w got s p) l (opening plan p s k z) (λ τ. τ ≡ σ2) σ → Doing k (Rowed w got s p h g.output product (suc k) count σ) σ
    rest σ2 rows outputs excess given none mine' drawn opens =
        let τ : State = after_all l (own_takes w got s p h k) σ2 in
        let R : State → Type 0 = Rowed w got s p h g.output product (suc k) count σ in
        let took : SumsOf m q σ2 τ (λ i. 0 + tally l i ns) = takes_sums l m z ns σ2 (λ i. 0) kind.adds (every_filter _ _ (to plan p) (numbers plan s k) all (λ n f e. taking_is w got s p h k z n _ _ _ kind.own at f.1.0))
        (λ i li. ap (λ f. f i) none ∙ ready.sums i li ∙ sym (mod-eq_of_lt (positive w got s p h))) in
        let done : State = summed plan p g τ in
        let does : next l (Sum k) τ ≡ done = ap (λ y. summed plan p (product_in x y) τ) at in
        let own : (i : ℕ) → (if pairs then τ.rows g.output i else 0) ≡ begun i = λ i. elim (cases_Bool pairs) [
          | inl has ↦ cond-true pairs (τ.rows g.output i) 0 has ∙ ap (λ f. f g.output i) took.rows ∙ mine' has i ∙ sym (cond-true pairs (mine i) 0 has)
          | inr no' ↦ cond-false pairs (τ.rows g.output i) 0 no' ∙ sym (cond-false pairs (mine i) 0 no')
        ] in
        let joins : (c d : ℕ) → (c + d % q) % q ≡ (c + d) % q = λ c d. (let turned : c + d % q ≡ d % q + c = omega arith in ap (λ y. y % q) turned) ∙ mod-add-mod d q c ∙ (let back : d + c ≡ c + d = omega arith in ap (λ y. y % q) back) in
        let sum : (i : ℕ) → i < m → ((if pairs then τ.rows g.output i else 0) + τ.sums i) % q ≡ (begun i + tally l i ns) % q = λ i li.
        ap₂ (λ c d. (c + d) % q) (own i) (took.sums i li) ∙ joins (begun i) (0 + tally l i ns) ∙ (let same : begun i + (0 + tally l i ns) ≡ begun i + tally l i ns = omega arith in ap (λ y. y % q) same) in
        let new : ℕ → ℕ = λ i. ((if pairs then τ.rows g.output i else 0) + τ.sums i) % q in
        let after' : R done = record {
          others = λ u i ne. ap (λ f. f i) (set_there τ.rows g.output u new ne) ∙ ap (λ f. f u i) took.rows ∙ rows u i ne;
          here = λ i li held. ap (λ f. f i) (set_here τ.rows g.output g.output new refl) ∙ sum i li ∙ sums i li held;
          outputs = took.outputs ∙ outputs;
          excess = took.excess ∙ excess;
          ready = record { sums = λ i li. refl; drawn = took.drawn ∙ drawn; given = took.given ∙ given ∙ ready.given };
        } in
        own_leaves w got s p h k z kind.own at lk σ σ2 (λ ρ. ρ ≡ τ) R opens
        (every_filter _ _ (from plan p) (numbers plan s k) all (λ n f e.
        let sender : (message plan n).sender ≡ p = eqb-true _ _ e in
        let i : ℕ = (message plan n).share in
        let r : ℕ = (message plan n).receiver in (
          sender,
          ap (λ y. posted plan s y i σ2) (slot_is w got s p h k z n _ _ _ at f.1.0) ∙ kind.sent i σ2
              ∙ mine' (sym (kind.deals p) ∙ ap (λ y. deals_in plan s y z) (sym sender) ∙ f.1.3) i
              ∙ sym (kind.word k i r)
              ∙ ap (λ y. local_word_in w got p (key w got s p h k i y r) z) (sym sender)
              ∙ sym (word_of w got s p h k z n i (message plan n).sender r at f.1.0),
        )))
        refl
        (λ ρ e. subst (λ ys. Leaves (Goes w got s p) l ys R ρ) (sym (kind.closes k))
        (subst (Leaves (Goes w got s p) l (Sum k ∷ []) R) (sym e) (((record { slot = lk; kind = subst Multiplies (sym at) kind.is_product }, tt), tt), subst R (sym does) after')))

    own_is : own_product (scheme plan) p (σ.rows g.first) (σ.rows g.second) ≡ own_product (scheme plan) p a b
    own_is = holder_own plan (valid w got s p h) p _ _ _ _ first second

    pub product_slot : Doing k (Rowed w got s p h (product_in (session w.plan s) z).output (product_summand (scheme w.plan) (local_deal w got p s z) a b) (suc k) count σ) σ
    product_slot =
        let d : ℕ = deals_before plan p s k in
        let begins : List Instruction = Own k ∷ Deal k d ∷ [] in
        let more : words_before plan p s (suc k) ≡ words_before plan p s k + (if pairs then m - 1 else 0) = more_words w got s p h k z at ∙ ap (λ n. words_before plan p s k + n) kind.words in
        elim (cases_Bool pairs) [
          | inl has ↦
              let deals' : deals_in plan s p (slot w.plan s k) ≡ true = ap (deals_in plan s p) at ∙ kind.deals p ∙ has in
              let many : words_in plan s p z ≡ m - 1 = kind.words ∙ cond-true pairs (m - 1) 0 has in
              let σ1 : State = multiplied plan p g σ in
              let is1 : next l (Own k) σ ≡ σ1 = ap (λ y. multiplied plan p (product_in x y) σ) at in
              let words : ℕ → ℕ = word_after l σ.drawn in
              let σ2 : State = dealt_as plan words σ1.own g.output σ1 in
              let is2 : next l (Deal k d) (next l (Own k) σ) ≡ σ2 = ap (next l (Deal k d)) is1 ∙ ap (λ y. dealt_in plan s words (slice_index l.inputs σ.given) y σ1) at ∙ kind.made words (slice_index l.inputs σ.given) σ1 in
              let new : ℕ → ℕ = dealt (scheme plan) σ1.own words in
              let same : (i : ℕ) → σ2.rows g.output i ≡ mine i = λ i. ap (λ f. f i) (set_here σ.rows g.output g.output new refl) ∙ ap (λ v. dealt (scheme plan) v words i) own_is
              ∙ dealt_eq (scheme plan) (own_product (scheme plan) p a b) words (tape_word w s z p) i (λ j lj. word_is w got s p h k z j σ.drawn at lk (omega (arith, lj, many)) ready.drawn) in
              rest σ2 (λ u i ne. ap (λ f. f i) (set_there σ.rows g.output u new ne)) refl refl refl refl
              (λ yes' i. same i)
              (ap (λ n. n + (m - 1)) ready.drawn ∙ sym (more ∙ ap (λ n. words_before plan p s k + n) (cond-true pairs (m - 1) 0 has)))
              (subst (λ ys. Leaves (Goes w got s p) l ys (λ τ. τ ≡ σ2) σ) (sym (kind.opens k ∙ cond-true pairs begins [] has))
              (((record { slot = lk; kind = subst Multiplies (sym at) kind.is_product }, tt), ((record { slot = lk; kind = subst Deals (sym at) kind.is_dealt }, (ap (λ (τ : State). τ.drawn) is1 ∙ ready.drawn, lk, deals', subst (λ y. IsNextInput plan s p y (next l (Own k) σ).given) (sym at) (kind.next_input (next l (Own k) σ).given))), tt)), is2))
          | inr no' ↦
              rest σ (λ u i ne. refl) refl refl refl refl
              (λ yes' i. absurd (both_ways pairs no' yes'))
              (ready.drawn ∙ sym (more ∙ (let none = cond-false pairs (m - 1) 0 no' in omega (arith, none))))
              (subst (λ ys. Leaves (Goes w got s p) l ys (λ τ. τ ≡ σ) σ) (sym (kind.opens k ∙ cond-false pairs begins [] no')) (tt, refl))
        ]

  -- p has these summands of the wire
  abbrev pub Has : State → ℕ → (ℕ → ℕ) → Type 0
  Has σ v value = (i : ℕ) → i < length w.plan.groups → is_holder w.plan p i ≡ true → σ.rows v i ≡ value i

  -- the summands that gate t makes of its wires
  abbrev pub made_at : ℕ → ℕ → ℕ
  made_at t = gate_summands (local_run w got p s) t (summands (local_run w got p s) t (gate (session w.plan s) t).first) (summands (local_run w got p s) t (gate (session w.plan s) t).second)

  pub direct_product : (t k count : ℕ) → slot w.plan s k ≡ At_gate t → k < slots w.plan s → is_direct (session w.plan s) t ≡ true → (σ : State) → Ready w got s p h k count σ
      → Has σ (gate (session w.plan s) t).first (summands (local_run w got p s) t (gate (session w.plan s) t).first) → Has σ (gate (session w.plan s) t).second (summands (local_run w got p s) t (gate (session w.plan s) t).second)
      → Doing k (Rowed w got s p h (gate (session w.plan s) t).output (made_at t) (suc k) count σ) σ
  direct_product t k count at lk is σ ready first second =
      let both = and_parts (not x.prepared) (is_product (gate x t).operation) is in
      let done = product_slot (At_gate t) _ _ (direct_kind t is) k count at lk σ ready first second in (
        done.0,
        (let r = done.1 in record {
          others = r.others;
          here = λ i li held. r.here i li held ∙ sym (cond-true (is_product (gate x t).operation) _ _ both.1 ∙ ap (λ (f : ℕ → ℕ). f i) (cond-false x.prepared _ _ (not-true x.prepared both.0)));
          outputs = r.outputs;
          excess = r.excess;
          ready = r.ready;
        }),
      )

  pub product_of_masks : (t k count : ℕ) → slot w.plan s k ≡ Mask_product t → k < slots w.plan s → (σ : State) → Ready w got s p h k count σ
      → Has σ (mask_wire (session w.plan s) t First) (local_mask w got p s t First) → Has σ (mask_wire (session w.plan s) t Second) (local_mask w got p s t Second)
      → Doing k (Rowed w got s p h (product_wire (session w.plan s) t) (local_mask_product w got p s t) (suc k) count σ) σ
  product_of_masks t k count at lk σ ready first second = product_slot (Mask_product t) _ _ (masks_kind t) k count at lk σ ready first second

  -- ---- gates without messages

  module _ (t k count : ℕ) (at : slot w.plan s k ≡ At_gate t) (lk : k < slots w.plan s) (direct : is_direct (session w.plan s) t ≡ false) (σ : State) (ready : Ready w got s p h k count σ) where
    silent : (r : ℕ) → deals_in plan s r (At_gate t) ≡ false
    silent r = ap (λ b. b && has_pair (scheme plan) r) direct

    none_there : (F : ℕ → Type 0) (test : ℕ → Bool) → AllByRecursion F (filter test (numbers plan s k))
    none_there F test =
        every_filter (In w got s p h (DealtBy w got s p h k (At_gate t))) F test (numbers plan s k) (numbered w got s p h k (At_gate t) (DealtBy w got s p h k (At_gate t)) at lk (all_dealt w got s p h k (At_gate t)))
        (λ n f e. absurd (both_ways (deals_in plan s (message plan n).sender (At_gate t)) (silent (message plan n).sender) f.1.3))

    -- where only its output is set, in the opening or in the closing
    quiet : (value real : ℕ → ℕ) (τ : State) → τ ≡ record σ { rows = set_at σ.rows (gate x t).output value } → ((i : ℕ) → i < m → is_holder plan p i ≡ true → value i ≡ real i)
        → (σ1 : State) → Leaves (Goes w got s p) l (opening plan p s k (At_gate t)) (λ ρ. ρ ≡ σ1) σ → Leaves (Goes w got s p) l (closing plan p s k (At_gate t)) (λ ρ. ρ ≡ τ) σ1
        → Doing k (Rowed w got s p h (gate x t).output real (suc k) count σ) σ
    quiet value real τ is are σ1 opens closes =
        let R : State → Type 0 = Rowed w got s p h (gate x t).output real (suc k) count σ in
        let no_more : words_before plan p s (suc k) ≡ words_before plan p s k = more_words w got s p h k (At_gate t) at ∙ (let none = cond-false (deals_in plan s p (At_gate t)) (m - 1) 0 (silent p) in omega (arith, none)) in
        let after' : R (record σ { rows = set_at σ.rows (gate x t).output value }) = record {
          others = λ u i ne. ap (λ f. f i) (set_there σ.rows (gate x t).output u value ne);
          here = λ i li held. ap (λ f. f i) (set_here σ.rows (gate x t).output (gate x t).output value refl) ∙ are i li held;
          outputs = refl;
          excess = refl;
          ready = record { sums = ready.sums; drawn = ready.drawn ∙ sym no_more; given = ready.given };
        } in
        own_leaves w got s p h k (At_gate t) (record { all = λ k. refl; same = refl }) at lk σ σ1 (λ ρ. ρ ≡ σ1) R opens
        (none_there (λ n. RightAt w got s p (post plan n) σ1) (from plan p))
        (none_taken w got s p h (filter (to plan p) (numbers plan s k)) σ1 (none_there (λ n. ⊥) (to plan p)))
        (λ ρ same. subst (Leaves (Goes w got s p) l (closing plan p s k (At_gate t)) R) (sym same) (closes.0, subst R (sym (closes.1 ∙ is)) after'))

  pub linear_gate : (t k count : ℕ) → slot w.plan s k ≡ At_gate t → k < slots w.plan s → is_product (gate (session w.plan s) t).operation ≡ false → (σ : State) → Ready w got s p h k count σ
      → Has σ (gate (session w.plan s) t).first (summands (local_run w got p s) t (gate (session w.plan s) t).first) → Has σ (gate (session w.plan s) t).second (summands (local_run w got p s) t (gate (session w.plan s) t).second)
      → Doing k (Rowed w got s p h (gate (session w.plan s) t).output (made_at t) (suc k) count σ) σ
  linear_gate t k count at lk linear σ ready first second =
      let g : Gate = gate x t in
      let τ : State = computed q g σ in
      let direct : is_direct x t ≡ false = never x.prepared (is_product g.operation) linear in
      let does : next l (Linear k) σ ≡ τ = ap (λ y. computed q (product_in x y) σ) at in
      quiet t k count at lk direct σ ready (λ i. local q g.operation g.constant i (σ.rows g.first i) (σ.rows g.second i)) (made_at t) τ refl
      (λ i li held. ap₂ (local q g.operation g.constant i) (first i li held) (second i li held) ∙ sym (cond-false (is_product g.operation) _ _ linear))
      τ
      (subst (λ ys. Leaves (Goes w got s p) l ys (λ ρ. ρ ≡ τ) σ) (sym (ap₂ (λ b c. only_if (b && has_pair (scheme plan) p) (Own k ∷ Deal k (deals_before plan p s k) ∷ []) ++ only_if (not c) (Linear k ∷ [])) direct linear))
      (((record { slot = lk; kind = subst IsGate (sym at) tt }, tt), tt), does))
      (subst (λ ys. Leaves (Goes w got s p) l ys (λ ρ. ρ ≡ τ) τ) (sym (ap₂ (λ b c. only_if b (Sum k ∷ []) ++ only_if c (Join k ∷ [])) direct (nor x.prepared (is_product g.operation) linear))) (tt, refl))
    where
      never : (a b : Bool) → b ≡ false → (not a && b) ≡ false
      never true b e = refl
      never false b e = e

      nor : (a b : Bool) → b ≡ false → (a && b) ≡ false
      nor true b e = e
      nor false b e = refl

  -- a prepared product, where its wires were opened
  pub joined_gate : (t k count : ℕ) → slot w.plan s k ≡ At_gate t → k < slots w.plan s → is_prepared (session w.plan s) t ≡ true → (σ : State) → Ready w got s p h k count σ
      → σ.excess First ≡ local_excess w got p s t First (summands (local_run w got p s) t (gate (session w.plan s) t).first) → σ.excess Second ≡ local_excess w got p s t Second (summands (local_run w got p s) t (gate (session w.plan s) t).second)
      → Has σ (mask_wire (session w.plan s) t First) (local_mask w got p s t First) → Has σ (mask_wire (session w.plan s) t Second) (local_mask w got p s t Second)
      → Has σ (product_wire (session w.plan s) t) (local_mask_product w got p s t)
      → Doing k (Rowed w got s p h (gate (session w.plan s) t).output (made_at t) (suc k) count σ) σ
  joined_gate t k count at lk is σ ready one two a b c =
      let g : Gate = gate x t in
      let both = and_parts x.prepared (is_product g.operation) is in
      let direct : is_direct x t ≡ false = ap (λ y. not y && is_product g.operation) both.0 in
      let value : ℕ → ℕ = joined_summand q (σ.excess First) (σ.excess Second) (σ.rows (mask_wire x t First)) (σ.rows (mask_wire x t Second)) (σ.rows (product_wire x t)) in
      let τ : State = joined_in plan s (At_gate t) σ in
      let does : next l (Join k) σ ≡ τ = ap (λ y. joined_in plan s y σ) at in
      let d : ℕ = local_excess w got p s t First (summands run t g.first) in
      let e : ℕ = local_excess w got p s t Second (summands run t g.second) in
      quiet t k count at lk direct σ ready value (made_at t) τ refl
      (λ i li held.
      ap₂ (λ y z. joined_summand q y z (σ.rows (mask_wire x t First)) (σ.rows (mask_wire x t Second)) (σ.rows (product_wire x t)) i) one two
      ∙ ends d e i (a i li held) (b i li held) (c i li held)
      ∙ sym (cond-true (is_product g.operation) _ _ both.1 ∙ ap (λ (f : ℕ → ℕ). f i) (cond-true x.prepared _ _ both.0)))
      σ
      (subst (λ ys. Leaves (Goes w got s p) l ys (λ ρ. ρ ≡ σ) σ) (sym (ap₂ (λ b c. only_if (b && has_pair (scheme plan) p) (Own k ∷ Deal k (deals_before plan p s k) ∷ []) ++ only_if (not c) (Linear k ∷ [])) direct both.1)) (tt, refl))
      (subst (λ ys. Leaves (Goes w got s p) l ys (λ ρ. ρ ≡ τ) σ) (sym (ap₂ (λ b c. only_if b (Sum k ∷ []) ++ only_if c (Join k ∷ [])) direct is)) (((record { slot = lk; kind = subst IsGate (sym at) tt }, tt), tt), does))
    where
      ends : (d e i : ℕ) → σ.rows (mask_wire x t First) i ≡ local_mask w got p s t First i → σ.rows (mask_wire x t Second) i ≡ local_mask w got p s t Second i → σ.rows (product_wire x t) i ≡ local_mask_product w got p s t i
          → joined_summand q d e (σ.rows (mask_wire x t First)) (σ.rows (mask_wire x t Second)) (σ.rows (product_wire x t)) i ≡ joined_summand q d e (local_mask w got p s t First) (local_mask w got p s t Second) (local_mask_product w got p s t) i
      ends d e i a b c =
          ap₂ (λ y z. (z + d * y + e * σ.rows (mask_wire x t First) i + (if nat_eq i 0 then d * e else 0)) % q) b c
          ∙ ap (λ y. (local_mask_product w got p s t i + d * local_mask w got p s t Second i + e * y + (if nat_eq i 0 then d * e else 0)) % q) a
