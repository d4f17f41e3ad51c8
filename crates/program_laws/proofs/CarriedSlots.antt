-- What a party does in a slot of a carried input, or of a kept wire: it takes what it kept, and posts what it keeps.
use Rattle.std.proofs.Common.{◌≡◌, ℕ, suc, ◌<◌, true, List, [], map, length, refl, sym, ap, ◌∙◌, subst, arith}
use Rattle.std.specs.List.{AllByRecursion, filter, range_with_len}
use Rattle.std.proofs.lemmas.Bool.{cond-true, eqb-true}
use mathlib.Core.Logic.{inl}
use Rattle.list_laws.specs.Lists.{joined}
use Rattle.list_laws.proofs.JoinedLists.{every_joined, every_only_if, every_both}
use Rattle.secret_sharing.specs.Schemes.{Run, summands}
use Rattle.session_slots.specs.declared.source.Source.TheVariants.{Earlier}
use Rattle.session_slots.specs.Sessions.{Session, Slot, given_by, kept_wire, owners, source}
use Rattle.session_slots.specs.Sessions.Slot.{Input, Kept}
use Rattle.plan_model.specs.Plans.{Plan, IsPlan, is_holder, keeping_slot, session, slot, slots}
use Rattle.plan_model.specs.declared.key.Key.{Key}
use Rattle.plan_model.specs.Firsts.{first, numbers}
use Rattle.plan_model.specs.Messages.{slot_messages, input_messages, kept_message, kept_messages}
use Rattle.plan_model.specs.Numbers.{message}
use Rattle.plan_model.proofs.KeptPlaces.{IsKeptIn, kept_in}
use Rattle.plan_model.proofs.SlotMessages.{each_number, every_filter, keys_are}
use Rattle.share_world.specs.Worlds.{World}
use Rattle.share_world.specs.Locals.{kept_key, local_run}
use Rattle.program_model.specs.Programs.{from, to, post, take_of, input_taken, taken, taken_in, takes}
use Rattle.program_model.specs.States.{Given, State, after_all, posted, taking_slot}
use Rattle.program_laws.specs.Meets.{local_given, RightAt}
use Rattle.program_laws.proofs.DealtSlots.{start_is, undealt}
use Rattle.program_laws.proofs.ProductSlots.{Doing, Has as HasWire}
use Rattle.program_laws.proofs.SentMessages.{givers}
use Rattle.program_laws.proofs.SlotRuns.{Runs, valid, Ready, Rowed, key, In, numbered, slot_is, word_of, idle, slot_leaves}
use Rattle.program_laws.proofs.SlotTakes.{RowOf, Has, takes_row}
use Rattle.program_laws.proofs.SlotTallies.{Any, any_number, any_joined}
use Rattle.program_laws.proofs.TakenMessages.{IsTakenIn, all_taken}

-- each summand that a party holds of a kept wire comes to it
kept_any : (plan : Plan) (r k p i : ℕ) → p < plan.parties → i < length plan.groups → is_holder plan p i ≡ true → Any p i (kept_messages plan r k)
kept_any plan r k p i lp li held =
    any_joined p i (length plan.groups) i (λ j. joined plan.parties (kept_message plan r k j)) li
    (any_joined p i plan.parties p (kept_message plan r k i) lp (subst (Any p i) (sym (cond-true (is_holder plan p i) _ [] held)) (inl (refl, refl))))

-- a carried input slot takes what the earlier session keeps of the wire
module _ (plan : Plan) (h : IsPlan plan) (s v r c j k : ℕ) (is : source (session plan s) v ≡ Earlier r c j) (at : slot plan s k ≡ Input v) where
  pub taken_is : taken plan s k ≡ numbers plan r (keeping_slot plan s v r)
  taken_is = ap (taken_in plan s k) at ∙ ap (input_taken plan s k v) is

  pub carried_has : (p i : ℕ) → p < plan.parties → i < length plan.groups → is_holder plan p i ≡ true → Has plan i (filter (to plan p) (taken plan s k))
  carried_has p i lp li held =
      let kept = kept_in plan h s v r c j is in
      let n : ℕ = keeping_slot plan s v r in
      subst (λ ns. Has plan i (filter (to plan p) ns)) (sym taken_is)
      (any_number plan p i (numbers plan r n)
      (subst (Any p i) (sym (keys_are plan r n (omega (arith, kept.earlier, kept.session_there)) kept.slot_there ∙ ap (slot_messages plan r n) kept.slot_is)) (kept_any plan r n p i lp li held)))

module _ (w : World) (got : Key → ℕ) (s p : ℕ) (h : Runs w s p) where
  abbrev plan : Plan
  plan = w.plan

  abbrev x : Session
  x = session w.plan s

  abbrev m : ℕ
  m = length w.plan.groups

  abbrev l : Given
  l = local_given w got s p

  abbrev run : Run
  run = local_run w got p s

  -- where a slot has no messages there is nothing to post
  none_sent : (k : ℕ) (F : ℕ → Type 0) → slot_messages w.plan s k (slot w.plan s k) ≡ [] → AllByRecursion F (filter (from w.plan p) (numbers w.plan s k))
  none_sent k F none = subst (λ n. AllByRecursion F (filter (from plan p) (range_with_len (first plan s k) n))) (sym (ap length none)) tt

  -- ---- carried inputs

  module _ (v r c j k count : ℕ) (is : source (session w.plan s) v ≡ Earlier r c j) (at : slot w.plan s k ≡ Input v) (lk : k < slots w.plan s) (lv : v < length (owners (session w.plan s))) (σ : State) (ready : Ready w got s p h k count σ) where
    kept : IsKeptIn w.plan s v r c j
    kept = kept_in plan (valid w got s p h) s v r c j is

    abbrev value : ℕ → ℕ
    value = run.start v

    -- the numbers of the messages by which session r keeps the wire
    abbrev earlier : List ℕ
    earlier = numbers w.plan r (keeping_slot w.plan s v r)

    abbrev Keeping : Key → Type 0
    Keeping y = (y ≡ kept_key w.plan r s v y.share y.receiver) × (y.share < length w.plan.groups)

    there : r < length w.plan.sessions
    there = omega (arith, kept.earlier, h.session_there)

    all_kept : AllByRecursion (In w got s p h Keeping) earlier
    all_kept = each_number plan r (keeping_slot plan s v r) there kept.slot_there Keeping
        (subst (λ y. AllByRecursion Keeping (slot_messages plan r (keeping_slot plan s v r) y)) (sym kept.slot_is)
        (every_joined Keeping m _ (λ i li. every_joined Keeping plan.parties _ (λ a la. every_only_if Keeping (is_holder plan a i) _ (λ e. ((refl, li), tt))))))

    abbrev ours : List ℕ
    ours = filter (to plan p) (taken plan s k)

    words : AllByRecursion (λ n. (taking_slot plan n ≡ Input v) × (l.got n ≡ value (message plan n).share)) ours
    words = every_filter _ _ (to plan p) (taken plan s k)
        (every_both _ _ (λ n. IsTakenIn plan s k n × In w got s p h Keeping n) (taken plan s k) (λ n a b. (a, b))
        (all_taken plan (valid w got s p h) (givers plan h.sound) s k h.session_there lk)
        (subst (AllByRecursion (In w got s p h Keeping)) (sym (taken_is plan (valid w got s p h) s v r c j k is at)) all_kept))
        (λ n f e. (
          f.0.same ∙ at,
          ap got (f.1.1.0 ∙ ap (kept_key plan r s v (message plan n).share) (eqb-true (message plan n).receiver p e)) ∙ sym (start_is w got s p h v (Earlier r c j) lv is (message plan n).share),
        ))

    pub carried_input : Doing w got s p h k (Rowed w got s p h v ((local_run w got p s).start v) (suc k) count σ) σ
    carried_input =
        let on = undealt w got s p h v k count at (ap (given_by p) is) σ ready in
        let none : slot_messages plan s k (slot plan s k) ≡ [] = ap (slot_messages plan s k) at ∙ ap (input_messages plan s k) is in
        let τ : State = after_all l (takes plan p s k) σ in
        let row : RowOf l v ours value σ τ = takes_row l (Input v) v ours value σ (λ i a ρ. refl) words in
        let R : State → Type 0 = Rowed w got s p h v value (suc k) count σ in
        let after' : R τ = record {
          others = row.others;
          here = λ i li held. row.has i (carried_has plan (valid w got s p h) s v r c j k is at p i h.party_there li held);
          outputs = row.outputs;
          excess = row.excess;
          ready = record { sums = λ i li. ap (λ g. g i) row.sums ∙ on.0.sums i li; drawn = row.drawn ∙ on.0.drawn; given = row.given ∙ on.0.given };
        } in
        slot_leaves w got s p h k (Input v) at lk σ σ (λ ρ. ρ ≡ τ) R on.1 (none_sent k (λ n. RightAt w got s p (post plan n) σ) none) refl (λ ρ e. (tt, subst R (sym e) after'))

  -- ---- kept wires

  -- what p keeps of a wire it has, and nothing else is new but what the state counts
  pub kept_slot : (j k count : ℕ) → slot w.plan s k ≡ Kept j → k < slots w.plan s → (σ : State) → Ready w got s p h k count σ
      → HasWire w got s p h σ (kept_wire (session w.plan s) j) (summands (local_run w got p s) (length (session w.plan s).gates) (kept_wire (session w.plan s) j))
      → Doing w got s p h k (λ τ. (τ ≡ σ) × Ready w got s p h (suc k) count τ) σ
  kept_slot j k count at lk σ ready held =
      let z : Slot = Kept j in
      let wire : ℕ = kept_wire x j in
      let value : ℕ → ℕ = summands run (length x.gates) wire in
      let Mine : Key → Type 0 = λ y. (y ≡ key w got s p h k y.share y.sender y.receiver) × (y.share < m) × (is_holder plan y.sender y.share ≡ true) in
      let all : AllByRecursion (In w got s p h Mine) (numbers plan s k) =
      numbered w got s p h k z Mine at lk (every_joined Mine m _ (λ i li. every_joined Mine plan.parties _ (λ a la. every_only_if Mine (is_holder plan a i) _ (λ e. ((refl, li, e), tt))))) in
      let none : takes plan p s k ≡ [] = ap (λ ns. map (take_of plan) (filter (to plan p) ns)) (ap (taken_in plan s k) at) in
      let R : State → Type 0 = λ τ. (τ ≡ σ) × Ready w got s p h (suc k) count τ in
      slot_leaves w got s p h k z at lk σ σ (λ ρ. ρ ≡ σ) R (tt, refl)
      (every_filter _ _ (from plan p) (numbers plan s k) all (λ n f e.
      let i : ℕ = (message plan n).share in
      let r : ℕ = (message plan n).receiver in
      let sender : (message plan n).sender ≡ p = eqb-true _ _ e in (
        sender,
        ap (λ y. posted plan s y i σ) (slot_is w got s p h k z n _ _ _ at f.1.0)
            ∙ held i f.1.1 (subst (λ a. is_holder plan a i ≡ true) sender f.1.2)
            ∙ sym (word_of w got s p h k z n i (message plan n).sender r at f.1.0),
      )))
      (ap (λ es. after_all l es σ) none)
      (λ ρ e. (tt, (e, subst (Ready w got s p h (suc k) count) (sym e) (idle w got s p h k count z σ at refl ready))))
