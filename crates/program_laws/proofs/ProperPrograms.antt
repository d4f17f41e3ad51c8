-- What a program does with what suits its plan, whatever words it gets.
use Rattle.std.proofs.Common.{◌≡◌, ℕ, zero, suc, ◌+◌, ◌-◌, ◌<◌, ◌≤◌, Bool, true, false, if◌then◌else◌, List, [], length, refl, sym, ap, ◌∙◌, subst, arith}
use Rattle.std.specs.Prelude.{slice_index}
use Rattle.std.proofs.lemmas.Bool.{cases_lt, cond-true, false≢true}
use Rattle.std.proofs.lemmas.List.{get_or_past}
use Rattle.std.proofs.lemmas.Nat.{pow_pos}
use mathlib.Core.Logic.{inl, inr}
use Rattle.list_laws.specs.Lists.{total}
use Rattle.list_laws.proofs.JoinedLists.{total_within}
use Rattle.session_slots.specs.Sessions.{Slot, owners}
use Rattle.plan_model.specs.Plans.{Plan, session, slot, slots, deals_in, least_held, words, gives, words_in, words_before, input_count}
use Rattle.session_slots.specs.Sessions.Slot.{Input, At_gate, Output, Mask, Mask_product, Masked, Kept}
use Rattle.plan_model.specs.Sound.{IsSound}
use Rattle.plan_model.specs.declared.key.Key.{Key}
use Rattle.session_slots.specs.SoundSessions.{Inside}
use Rattle.session_slots.proofs.SessionSlots.{slots_are_numbered}
use Rattle.share_world.specs.Worlds.{World}
use Rattle.program_model.specs.declared.instruction.Instruction.{Instruction}
use Rattle.program_model.specs.declared.instruction.Instruction.TheVariants.{Draw, Deal, Post, Take, Linear, Own, Sum, Open, Join, Deliver, End}
use Rattle.program_model.specs.Programs.{program, at}
use Rattle.program_model.specs.States.{Given, State, new_state, state, after, drawn_in, dealt_in, took_in, opened_in, joined_in, word_after, taking_slot}
use Rattle.program_model.specs.Proper.{Proper, IsMask, CanDraw, CanDealIn, HasInput}
use Rattle.program_model.specs.GivenData.{Suits}
use Rattle.program_model.proofs.InstructionLists.{along_at, state_is}
use Rattle.program_laws.specs.Meets.{local_given, IsNextInput, Goes, SmallTape}
use Rattle.program_laws.proofs.LocalPrograms.{met}

-- ---- what was drawn and dealt does not hang on what is given

abbrev HasDone : State → State → Type 0
HasDone σ τ = (σ.drawn ≡ τ.drawn) × (σ.given ≡ τ.given)

drawn_same : (plan : Plan) (p s : ℕ) (f g : ℕ → ℕ) (z : Slot) (σ τ : State) → HasDone σ τ → HasDone (drawn_in plan p s f z σ) (drawn_in plan p s g z τ)
drawn_same plan p s f g (Mask t side) σ τ e = (ap (λ z. z + least_held plan p (length plan.groups)) e.0, e.1)
drawn_same plan p s f g _ σ τ e = e

dealt_same : (plan : Plan) (s : ℕ) (f g : ℕ → ℕ) (x y : ℕ) (z : Slot) (σ τ : State) → HasDone σ τ → HasDone (dealt_in plan s f x z σ) (dealt_in plan s g y z τ)
dealt_same plan s f g x y (Input v) σ τ e = (ap (λ z. z + (length plan.groups - 1)) e.0, ap (λ z. z + 1) e.1)
dealt_same plan s f g x y (At_gate t) σ τ e = (ap (λ z. z + (length plan.groups - 1)) e.0, e.1)
dealt_same plan s f g x y (Mask_product t) σ τ e = (ap (λ z. z + (length plan.groups - 1)) e.0, e.1)
dealt_same plan s f g x y _ σ τ e = e

took_same : (plan : Plan) (s : ℕ) (z : Slot) (i x y : ℕ) (σ τ : State) → HasDone σ τ → HasDone (took_in plan s z i x σ) (took_in plan s z i y τ)
took_same plan s (Input v) i x y σ τ e = e
took_same plan s (Mask t side) i x y σ τ e = e
took_same plan s _ i x y σ τ e = e

opened_same : (plan : Plan) (p s : ℕ) (z : Slot) (σ τ : State) → HasDone σ τ → HasDone (opened_in plan p s z σ) (opened_in plan p s z τ)
opened_same plan p s (Masked t side) σ τ e = e
opened_same plan p s _ σ τ e = e

joined_same : (plan : Plan) (s : ℕ) (z : Slot) (σ τ : State) → HasDone σ τ → HasDone (joined_in plan s z σ) (joined_in plan s z τ)
joined_same plan s (At_gate t) σ τ e = e
joined_same plan s _ σ τ e = e

after_same : (plan : Plan) (p s : ℕ) (f g : ℕ → ℕ) (x y : ℕ) (got had : ℕ → ℕ) (e : Instruction) (σ τ : State) → HasDone σ τ → HasDone (after plan p s f x got e σ) (after plan p s g y had e τ)
after_same plan p s f g x y got had (Draw k) σ τ h = drawn_same plan p s f g (slot plan s k) σ τ h
after_same plan p s f g x y got had (Deal k d) σ τ h = dealt_same plan s f g x y (slot plan s k) σ τ h
after_same plan p s f g x y got had (Take n i) σ τ h = took_same plan s (taking_slot plan n) i (got n) (had n) σ τ h
after_same plan p s f g x y got had (Open k) σ τ h = opened_same plan p s (slot plan s k) σ τ h
after_same plan p s f g x y got had (Join k) σ τ h = joined_same plan s (slot plan s k) σ τ h
after_same plan p s f g x y got had (Post n i) σ τ h = h
after_same plan p s f g x y got had (Linear k) σ τ h = h
after_same plan p s f g x y got had (Own k) σ τ h = h
after_same plan p s f g x y got had (Sum k) σ τ h = h
after_same plan p s f g x y got had (Deliver k) σ τ h = h
after_same plan p s f g x y got had End σ τ h = h

abbrev given : Plan → ℕ → ℕ → List ℕ → List ℕ → (ℕ → ℕ) → Given
given plan p s inputs tape got = record { plan = plan; party = p; session = s; inputs = inputs; tape = tape; got = got }

done_same : (plan : Plan) (p s : ℕ) (xs ys ts us : List ℕ) (got had : ℕ → ℕ) (q : ℕ) → HasDone (state (given plan p s xs ts got) q) (state (given plan p s ys us had) q)
done_same plan p s xs ys ts us got had zero = (refl, refl)
done_same plan p s xs ys ts us got had (suc q) =
    let a : Given = given plan p s xs ts got in
    let b : Given = given plan p s ys us had in
    let σ : State = state a q in
    let τ : State = state b q in
    after_same plan p s (word_after a σ.drawn) (word_after b τ.drawn) (slice_index xs σ.given) (slice_index ys τ.given) got had (at (program plan p s) q) σ τ (done_same plan p s xs ys ts us got had q)

-- ---- a world of this plan, without inputs and tapes

module _ (plan : Plan) (h : IsSound plan) (s p : ℕ) (ls : s < length plan.sessions) (lp : p < plan.parties) where
  abbrev bare : World
  bare = record { plan = plan; inputs = []; tapes = [] }

  abbrev none : Key → ℕ
  none k = 0

  small : SmallTape bare s p
  small k i = pow_pos plan.bits

  goes : (q : ℕ) → q < length (program plan p s) → Goes bare none s p (at (program plan p s) q) (state (local_given bare none s p) q)
  goes q lq = subst (Goes bare none s p (at (program plan p s) q)) (sym (state_is (local_given bare none s p) q)) (along_at (Goes bare none s p) (local_given bare none s p) (program plan p s) new_state q lq (met bare h none s p ls lp small).0)

  inside : (q : ℕ) (e : Instruction) → at (program plan p s) q ≡ e → (e ≡ End → ⊥) → q < length (program plan p s)
  inside q e is ne = elim (cases_lt q (length (program plan p s))) [
    | inl b ↦ b
    | inr past ↦ absurd (ne (sym is ∙ get_or_past (program plan p s) q End past))
  ]

  -- a program's instructions name what is there
  pub proper_at : (q : ℕ) → Proper plan s (at (program plan p s) q)
  proper_at q = elim (cases_lt q (length (program plan p s))) [
    | inl b ↦ (goes q b).0
    | inr past ↦ subst (Proper plan s) (sym (get_or_past (program plan p s) q End past)) tt
  ]

  count_below : (n : ℕ) (test : ℕ → Bool) → total n (λ j. if test j then 1 else 0) ≤ n
  count_below zero test = omega arith
  count_below (suc n) test = let a = count_below n test in let b = at_most (test n) in omega arith
    where
      at_most : (b : Bool) → (if b then 1 else 0) ≤ 1
      at_most true = omega arith
      at_most false = omega arith

  module _ (inputs tape : List ℕ) (got : ℕ → ℕ) (many : length inputs ≡ input_count plan p s) (long : length tape ≡ words plan p s) where
    -- the input that is dealt is there
    has_input : (z : Slot) → Inside (session plan s) z → deals_in plan s p z ≡ true → (done : ℕ) → IsNextInput plan s p z done → HasInput (given plan p s inputs tape got) z done
    has_input (Input v) lv yes' done next' =
        let c : ℕ → ℕ = λ v. if gives plan s p v then 1 else 0 in
        let one : c v ≡ 1 = cond-true (gives plan s p v) 1 0 yes' in
        let within : total v c + c v ≤ total (length (owners (session plan s))) c = total_within (length (owners (session plan s))) v c lv in
        let few : total v c ≤ v = count_below v (gives plan s p) in
        let wired = (h.sessions s ls).wired in
        let most = wired.wires in
        let inputs = wired.input_wires in (omega arith, omega arith)
    has_input (At_gate t) inside yes' done next' = tt
    has_input (Mask_product t) inside yes' done next' = tt
    has_input (Output o) inside yes' done next' = absurd (false≢true yes')
    has_input (Mask t side) inside yes' done next' = absurd (false≢true yes')
    has_input (Masked t side) inside yes' done next' = absurd (false≢true yes')
    has_input (Kept j) inside yes' done next' = absurd (false≢true yes')

    abbrev here : ℕ → State
    here q = state (given plan p s inputs tape got) q

    done : (q : ℕ) → HasDone (here q) (state (local_given bare none s p) q)
    done q = done_same plan p s inputs (local_given bare none s p).inputs tape (local_given bare none s p).tape got (local_given bare none s p).got q

    right : (q : ℕ) (e : Instruction) → at (program plan p s) q ≡ e → (e ≡ End → ⊥) → Goes bare none s p e (state (local_given bare none s p) q)
    right q e is ne = subst (λ z. Goes bare none s p z (state (local_given bare none s p) q)) is (goes q (inside q e is ne))

    -- the words of a slot are on the tape
    words_there : (k n drawn : ℕ) → k < slots plan s → words_in plan s p (slot plan s k) ≡ n → drawn ≡ words_before plan p s k → drawn + n ≤ length tape
    words_there k n drawn lk some before =
        let c : ℕ → ℕ = λ k. words_in plan s p (slot plan s k) in
        let within : total k c + c k ≤ total (slots plan s) c = total_within (slots plan s) k c lk in
        omega arith

    -- a party that draws finds its words
    pub draw_at : (q k : ℕ) → at (program plan p s) q ≡ Draw k → CanDraw (given plan p s inputs tape got) (state (given plan p s inputs tape got) q)
    draw_at q k e =
        let g = right q (Draw k) e (λ f. cc) in
        words_there k (least_held plan p (length plan.groups)) (here q).drawn g.1.1 (drawn_there (slot plan s k) g.0.kind) ((done q).0 ∙ g.1.0)
      where
        drawn_there : (z : Slot) → IsMask z → words_in plan s p z ≡ least_held plan p (length plan.groups)
        drawn_there (Mask t side) is = refl
        drawn_there (Input v) is = absurd is
        drawn_there (At_gate t) is = absurd is
        drawn_there (Output o) is = absurd is
        drawn_there (Mask_product t) is = absurd is
        drawn_there (Masked t side) is = absurd is
        drawn_there (Kept j) is = absurd is

    -- a deal finds its words and its input
    pub deal_at : (q k d : ℕ) → at (program plan p s) q ≡ Deal k d → CanDealIn (given plan p s inputs tape got) k (state (given plan p s inputs tape got) q)
    deal_at q k d e =
        let g = right q (Deal k d) e (λ f. cc) in
        let lk : k < slots plan s = g.1.1 in
        let is : deals_in plan s p (slot plan s k) ≡ true = g.1.2 in
        record {
          words = words_there k (length plan.groups - 1) (here q).drawn lk (dealt_words (slot plan s k) is) ((done q).0 ∙ g.1.0);
          input = has_input (slot plan s k) ((slots_are_numbered (session plan s)).inside k lk) is (here q).given (subst (IsNextInput plan s p (slot plan s k)) (sym (done q).1) g.1.3);
        }
      where
        dealt_words : (z : Slot) → deals_in plan s p z ≡ true → words_in plan s p z ≡ length plan.groups - 1
        dealt_words (Input v) is = cond-true (deals_in plan s p (Input v)) (length plan.groups - 1) 0 is
        dealt_words (At_gate t) is = cond-true (deals_in plan s p (At_gate t)) (length plan.groups - 1) 0 is
        dealt_words (Mask_product t) is = cond-true (deals_in plan s p (Mask_product t)) (length plan.groups - 1) 0 is
        dealt_words (Output o) is = absurd (false≢true is)
        dealt_words (Mask t side) is = absurd (false≢true is)
        dealt_words (Masked t side) is = absurd (false≢true is)
        dealt_words (Kept j) is = absurd (false≢true is)

-- ---- the same of what suits the plan

pub is_proper : (l : Given) → Suits l → (q : ℕ) → Proper l.plan l.session (at (program l.plan l.party l.session) q)
is_proper l h q = proper_at l.plan h.sound l.session l.party h.session h.party q

pub can_deal : (l : Given) → Suits l → (q k d : ℕ) → at (program l.plan l.party l.session) q ≡ Deal k d → CanDealIn l k (state l q)
can_deal l h q k d e = deal_at l.plan h.sound l.session l.party h.session h.party l.inputs l.tape l.got h.inputs h.tape q k d e

pub can_draw : (l : Given) → Suits l → (q k : ℕ) → at (program l.plan l.party l.session) q ≡ Draw k → CanDraw l (state l q)
can_draw l h q k e = draw_at l.plan h.sound l.session l.party h.session h.party l.inputs l.tape l.got h.inputs h.tape q k e
