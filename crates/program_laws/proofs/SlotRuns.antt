-- What a party does in one slot: its opening, its posts, its takes and its closing.
use Rattle.std.proofs.Common.{◌≡◌, ◌≢◌, ℕ, suc, ◌+◌, ◌<◌, ◌≤◌, ◌^◌, Bool, true, not, ◌&&◌, nat_eq, List, [], ◌∷◌, ◌++◌, map, drop, length, refl, sym, ap, ◌∙◌, subst, arith, get_or-take, append_assoc}
use Rattle.std.specs.Prelude.{slice_index, slice_index_or}
use Rattle.std.specs.List.{AllByRecursion, filter}
use Rattle.std.proofs.lemmas.Bool.{and_parts, both_ways, eq-eqb, not_from_true}
use Rattle.std.proofs.lemmas.List.{get_or-drop}
use Rattle.std.proofs.lemmas.Nat.{pow_pos}
use Rattle.list_laws.specs.Lists.{joined, only_if}
use Rattle.list_laws.proofs.JoinedLists.{every_joined, every_only_if, every_both, total_within}
use Rattle.session_slots.specs.Sessions.{Session, Slot}
use Rattle.session_slots.proofs.SessionSlots.{slots_are_numbered}
use Rattle.plan_model.specs.Plans.{Plan, IsPlan, session, slot, slots, slot_number, is_holder, holder_of, deals_in, opens_to, words_in, words_before, words, place}
use Rattle.plan_model.specs.declared.key.Key.{Key}
use Rattle.plan_model.specs.Firsts.{numbers}
use Rattle.plan_model.specs.Messages.{messages, slot_messages, deal_message, product_messages, open_messages}
use Rattle.plan_model.specs.Numbers.{message}
use Rattle.plan_model.specs.Sound.{IsSound}
use Rattle.plan_model.proofs.DistinctMessages.{every_summand}
use Rattle.plan_model.proofs.PlanSchemes.{plan_is}
use Rattle.plan_model.proofs.SlotMessages.{each_number, every_filter}
use Rattle.share_world.specs.Worlds.{World, tape_word}
use Rattle.share_world.specs.Locals.{local_word, local_word_in}
use Rattle.program_model.specs.declared.instruction.Instruction.{Instruction}
use Rattle.program_model.specs.Programs.{from, to, post, take_of, opening, closing, posts, taken, taken_as, taken_in, takes, slot_program}
use Rattle.program_model.specs.States.{Given, State, next, after_all, slot_of, taking_slot, word_after}
use Rattle.program_model.specs.Proper.{IsSessionMessage, IsTakenMessage}
use Rattle.program_model.specs.Along.{AllAlong}
use Rattle.program_model.proofs.InstructionLists.{Leaves, leaves_append, along_posts, after_posts}
use Rattle.program_laws.specs.Meets.{local_given, RightAt, Goes, SmallTape}
use Rattle.program_laws.proofs.SentMessages.{givers}
use Rattle.program_laws.proofs.TakenMessages.{all_taken, taken_message}

-- party p runs session s of a plan within the limits, with tape words of the ring
pub record Runs (w : World) (s p : ℕ) : Type 0 where
  pub sound : IsSound w.plan
  pub session_there : s < length w.plan.sessions
  pub party_there : p < w.plan.parties
  pub small : SmallTape w s p

module _ (w : World) (got : Key → ℕ) (s p : ℕ) (h : Runs w s p) where
  abbrev plan : Plan
  plan = w.plan

  abbrev x : Session
  x = session w.plan s

  abbrev m : ℕ
  m = length w.plan.groups

  abbrev l : Given
  l = local_given w got s p

  abbrev good : Instruction → State → Type 0
  good = Goes w got s p

  pub valid : IsPlan w.plan
  valid = plan_is w.plan h.sound

  pub positive : 0 < 2 ^ w.plan.bits
  positive = pow_pos w.plan.bits

  -- ---- words

  pub number_is : (k : ℕ) (z : Slot) → slot w.plan s k ≡ z → k < slots w.plan s → slot_number w.plan s z ≡ k
  number_is k z at lk = ap (slot_number plan s) (sym at) ∙ (slots_are_numbered x).number k lk

  -- the words that are drawn in slot k are its tape words
  pub word_is : (k : ℕ) (z : Slot) (i drawn : ℕ) → slot w.plan s k ≡ z → k < slots w.plan s → i < words_in w.plan s p z → drawn ≡ words_before w.plan p s k → word_after (local_given w got s p) drawn i ≡ tape_word w s z p i
  word_is k z i drawn at lk li e =
      let tape : List ℕ = slice_index_or w.tapes p [] in
      let before : ℕ = words_before plan p s k in
      let within : before + words_in plan s p (slot plan s k) ≤ words plan p s = total_within (slots plan s) k (λ j. words_in plan s p (slot plan s j)) lk in
      let here : words_in plan s p (slot plan s k) ≡ words_in plan s p z = ap (words_in plan s p) at in
      let same : place plan p s 0 + (before + i) ≡ place plan p s k + i = omega arith in
      ap (λ n. word_after l n i) e
      ∙ get_or-take (words plan p s) (drop (place plan p s 0) tape) (before + i) 0 (omega (arith, within, here, li))
      ∙ get_or-drop (place plan p s 0) tape (before + i) 0
      ∙ ap (slice_index tape) same
      ∙ ap (λ n. slice_index tape (place plan p s n + i)) (sym (number_is k z at lk))

  pub more_words : (k : ℕ) (z : Slot) → slot w.plan s k ≡ z → words_before w.plan p s (suc k) ≡ words_before w.plan p s k + words_in w.plan s p z
  more_words k z at = ap (λ y. words_before plan p s k + words_in plan s p y) at

  -- ---- what holds between slots

  -- before slot k, where so many inputs were dealt
  pub record Ready (k count : ℕ) (σ : State) : Type 0 where
    pub sums : (i : ℕ) → i < length w.plan.groups → σ.sums i ≡ 0
    pub drawn : σ.drawn ≡ words_before w.plan p s k
    pub given : σ.given ≡ count

  pub ready_at : (k j count : ℕ) (σ : State) → k ≡ j → Ready k count σ → Ready j count σ
  ready_at k j count σ e r = subst (λ z. Ready z count σ) e r

  -- a slot in which p draws nothing leaves it so
  pub idle : (k count : ℕ) (z : Slot) (σ : State) → slot w.plan s k ≡ z → words_in w.plan s p z ≡ 0 → Ready k count σ → Ready (suc k) count σ
  idle k count z σ at none r = record { sums = r.sums; drawn = r.drawn ∙ sym (more_words k z at ∙ omega (arith, none)); given = r.given }

  -- only this row is another one, and has these summands of those that p holds
  pub record Rowed (row : ℕ) (value : ℕ → ℕ) (k count : ℕ) (σ τ : State) : Type 0 where
    pub others : (u i : ℕ) → u ≢ row → τ.rows u i ≡ σ.rows u i
    pub here : (i : ℕ) → i < length w.plan.groups → is_holder w.plan p i ≡ true → τ.rows row i ≡ value i
    pub outputs : τ.outputs ≡ σ.outputs
    pub excess : τ.excess ≡ σ.excess
    pub ready : Ready k count τ

  -- ---- the messages of a slot

  abbrev pub key : ℕ → ℕ → ℕ → ℕ → Key
  key k i a b = record { session = s; slot = k; share = i; sender = a; receiver = b }

  abbrev pub In : (Key → Type 0) → ℕ → Type 0
  In F n = (n < length (messages w.plan)) × F (message w.plan n)

  pub numbered : (k : ℕ) (z : Slot) (F : Key → Type 0) → slot w.plan s k ≡ z → k < slots w.plan s → AllByRecursion F (slot_messages w.plan s k z) → AllByRecursion (In F) (numbers w.plan s k)
  numbered k z F at lk all = each_number plan s k h.session_there lk F (subst (λ y. AllByRecursion F (slot_messages plan s k y)) (sym at) all)

  -- a message of slot k
  abbrev pub Sent : ℕ → Key → Type 0
  Sent k y = (y ≡ key k y.share y.sender y.receiver) × (y.share < length w.plan.groups)

  all_sent : (k : ℕ) → k < slots w.plan s → AllByRecursion (In (Sent k)) (numbers w.plan s k)
  all_sent k lk = each_number plan s k h.session_there lk (Sent k) (every_summand (Sent k) plan s k (λ i a b li. (refl, li)) (slot plan s k))

  -- of a deal of products in slot z
  abbrev pub DealtBy : ℕ → Slot → Key → Type 0
  DealtBy k z y = (y ≡ key k y.share y.sender y.receiver) × (y.share < length w.plan.groups) × (y.receiver ≢ y.sender) × (deals_in w.plan s y.sender z ≡ true)

  -- of an opening
  abbrev pub ShownBy : ℕ → Slot → Key → Type 0
  ShownBy k z y = (y ≡ key k y.share (holder_of w.plan y.share) y.receiver) × (y.share < length w.plan.groups) × (opens_to w.plan s y.receiver z ≡ true)

  -- of summands that are dealt each by a sender of its own
  abbrev pub RowBy : ℕ → (ℕ → ℕ) → Key → Type 0
  RowBy k sender y = (y ≡ key k y.share (sender y.share) y.receiver) × (y.share < length w.plan.groups) × (y.receiver ≢ sender y.share)

  pub other_of : (r a : ℕ) (b : Bool) → (not (nat_eq r a) && b) ≡ true → r ≢ a
  other_of r a b e eq = both_ways (not (nat_eq r a)) (not_from_true _ (eq-eqb r a eq)) (and_parts (not (nat_eq r a)) b e).0

  pub all_rows : (k : ℕ) (sender : ℕ → ℕ) → AllByRecursion (RowBy k sender) (joined (length w.plan.groups) (λ i. joined w.plan.parties (deal_message w.plan s k (sender i) i)))
  all_rows k sender = every_joined (RowBy k sender) m _ (λ i li. every_joined (RowBy k sender) plan.parties _ (λ r lr. every_only_if (RowBy k sender) (not (nat_eq r (sender i)) && is_holder plan r i) (key k i (sender i) r ∷ []) (λ e. ((refl, li, other_of r (sender i) (is_holder plan r i) e), tt))))

  pub all_dealt : (k : ℕ) (z : Slot) → AllByRecursion (DealtBy k z) (product_messages w.plan s k z)
  all_dealt k z = every_joined (DealtBy k z) plan.parties _ (λ a la. every_only_if (DealtBy k z) (deals_in plan s a z) _ (λ deals'.
      every_joined (DealtBy k z) m _ (λ i li. every_joined (DealtBy k z) plan.parties _ (λ r lr. every_only_if (DealtBy k z) (not (nat_eq r a) && is_holder plan r i) (key k i a r ∷ []) (λ e. ((refl, li, other_of r a (is_holder plan r i) e, deals'), tt))))))

  pub all_shown : (k : ℕ) (z : Slot) → AllByRecursion (ShownBy k z) (joined w.plan.parties (λ r. only_if (opens_to w.plan s r z) (open_messages w.plan s k r)))
  all_shown k z = every_joined (ShownBy k z) plan.parties _ (λ r lr. every_only_if (ShownBy k z) (opens_to plan s r z) _ (λ shows.
      every_joined (ShownBy k z) m _ (λ i li. every_only_if (ShownBy k z) (not (is_holder plan r i)) (key k i (holder_of plan i) r ∷ []) (λ e. ((refl, li, shows), tt)))))

  -- its slot, and its word as p has it
  pub slot_is : (k : ℕ) (z : Slot) (n i a b : ℕ) → slot w.plan s k ≡ z → message w.plan n ≡ key k i a b → slot_of w.plan n ≡ z
  slot_is k z n i a b at e = ap (λ (y : Key). slot plan y.session y.slot) e ∙ at

  pub word_of : (k : ℕ) (z : Slot) (n i a b : ℕ) → slot w.plan s k ≡ z → message w.plan n ≡ key k i a b → local_word w got p (message w.plan n) ≡ local_word_in w got p (key k i a b) z
  word_of k z n i a b at e = ap (local_word w got p) e ∙ ap (local_word_in w got p (key k i a b)) at

  message_is : (k n : ℕ) → k < slots w.plan s → In (Sent k) n → IsSessionMessage w.plan s n (message w.plan n).share
  message_is k n lk f = record { number = f.0; session = ap (λ (y : Key). y.session) f.1.0; share = f.1.1; slot = subst (λ (y : Key). y.slot < slots plan y.session) (sym f.1.0) lk }

  -- ---- one slot

  pub none_taken : (ns : List ℕ) (σ : State) → AllByRecursion (λ n. ⊥) ns → after_all (local_given w got s p) (map (take_of w.plan) ns) σ ≡ σ
  none_taken [] σ h = refl
  none_taken (n ∷ ns) σ h = absurd h.0

  along_takes : (ns : List ℕ) (σ : State) → AllByRecursion (λ n. IsTakenMessage w.plan s n (message w.plan n).share) ns → AllAlong good l (map (take_of w.plan) ns) σ
  along_takes [] σ h = tt
  along_takes (n ∷ ns) σ h = ((h.0, tt), along_takes ns (next l (take_of plan n) σ) h.1)

  pub slot_leaves : (k : ℕ) (z : Slot) → slot w.plan s k ≡ z → k < slots w.plan s → (σ σ1 : State) (Q R : State → Type 0)
      → Leaves (Goes w got s p) (local_given w got s p) (opening w.plan p s k z) (λ τ. τ ≡ σ1) σ
      → AllByRecursion (λ n. RightAt w got s p (post w.plan n) σ1) (filter (from w.plan p) (numbers w.plan s k))
      → Q (after_all (local_given w got s p) (takes w.plan p s k) σ1)
      → ((τ : State) → Q τ → Leaves (Goes w got s p) (local_given w got s p) (closing w.plan p s k z) R τ)
      → Leaves (Goes w got s p) (local_given w got s p) (slot_program w.plan p s k) R σ
  slot_leaves k z at lk σ σ1 Q R opens sends took close =
      let ps : List Instruction = posts plan p s k in
      let ts : List Instruction = takes plan p s k in
      let start : List Instruction = opening plan p s k z in
      let end : List Instruction = closing plan p s k z in
      let sent : AllByRecursion (λ n. IsSessionMessage plan s n (message plan n).share) (filter (from plan p) (numbers plan s k)) =
      every_filter _ _ (from plan p) (numbers plan s k) (all_sent k lk) (λ n f e. message_is k n lk f) in
      let got' : AllByRecursion (λ n. IsTakenMessage plan s n (message plan n).share) (filter (to plan p) (taken plan s k)) =
      every_filter _ _ (to plan p) (taken plan s k) (all_taken plan valid (givers plan h.sound) s k h.session_there lk) (λ n it e. taken_message plan s k n lk it) in
      let goes : AllByRecursion (λ n. good (post plan n) σ1) (filter (from plan p) (numbers plan s k)) =
      every_both _ _ _ (filter (from plan p) (numbers plan s k)) (λ n a b. (a, b)) sent sends in
      let taking : Leaves good l (ts ++ end) R σ1 = leaves_append good l ts end Q R σ1 (along_takes (filter (to plan p) (taken plan s k)) σ1 got', took) close in
      let posting : Leaves good l (ps ++ (ts ++ end)) R σ1 =
      leaves_append good l ps (ts ++ end) (λ τ. τ ≡ σ1) R σ1
      (along_posts good l (filter (from plan p) (numbers plan s k)) σ1 goes, after_posts l (filter (from plan p) (numbers plan s k)) σ1)
      (λ τ e. subst (λ y. Leaves good l (ts ++ end) R y) (sym e) taking) in
      subst (λ y. Leaves good l ((opening plan p s k y ++ ps) ++ (ts ++ closing plan p s k y)) R σ) (sym at)
      (subst (λ xs. Leaves good l xs R σ) (sym (append_assoc start ps (ts ++ end)))
      (leaves_append good l start (ps ++ (ts ++ end)) (λ τ. τ ≡ σ1) R σ opens (λ τ e. subst (λ y. Leaves good l (ps ++ (ts ++ end)) R y) (sym e) posting)))

  -- ---- slots whose messages are taken in them

  pub record TakesOwn (z : Slot) : Type 0 where
    pub all : (k : ℕ) → taken_in w.plan s k z ≡ numbers w.plan s k
    pub same : taken_as (session w.plan s) z ≡ z

  -- the takes there
  abbrev pub own_takes : ℕ → List Instruction
  own_takes k = map (take_of w.plan) (filter (to w.plan p) (numbers w.plan s k))

  pub taking_is : (k : ℕ) (z : Slot) (n i a b : ℕ) → TakesOwn z → slot w.plan s k ≡ z → message w.plan n ≡ key k i a b → taking_slot w.plan n ≡ z
  taking_is k z n i a b own at e = ap (λ (y : Key). taken_as (session plan y.session) (slot plan y.session y.slot)) e ∙ ap (taken_as x) at ∙ own.same

  pub own_leaves : (k : ℕ) (z : Slot) → TakesOwn z → slot w.plan s k ≡ z → k < slots w.plan s → (σ σ1 : State) (Q R : State → Type 0)
      → Leaves (Goes w got s p) (local_given w got s p) (opening w.plan p s k z) (λ τ. τ ≡ σ1) σ
      → AllByRecursion (λ n. RightAt w got s p (post w.plan n) σ1) (filter (from w.plan p) (numbers w.plan s k))
      → Q (after_all (local_given w got s p) (own_takes k) σ1)
      → ((τ : State) → Q τ → Leaves (Goes w got s p) (local_given w got s p) (closing w.plan p s k z) R τ)
      → Leaves (Goes w got s p) (local_given w got s p) (slot_program w.plan p s k) R σ
  own_leaves k z own at lk σ σ1 Q R opens sends took close =
      slot_leaves k z at lk σ σ1 Q R opens sends
      (subst (λ ns. Q (after_all l (map (take_of plan) (filter (to plan p) ns)) σ1)) (sym (ap (taken_in plan s k) at ∙ own.all k)) took) close
