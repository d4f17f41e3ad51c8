-- The messages that a party expects, and where they stand.
use Rattle.std.proofs.Common.{◌≡◌, ◌≢◌, ℕ, ◌+◌, ◌<◌, ◌≤◌, Bool, true, false, cond, not, nat_eq, ne_eqb, ◌&&◌, List, [], ◌∷◌, ◌++◌, set, take, length, refl, sym, ap, ◌∙◌, subst, arith}
use Rattle.std.specs.Prelude.{filter, slice_index, slice_index_or}
use Rattle.std.proofs.lemmas.Bool.{cases_lt, cases_eq, and_from, eq-eqb}
use Rattle.std.proofs.lemmas.List.{append_assoc, length-take, get_or-append-add, get_or-set_same, get_or-set_other}
use Rattle.std.proofs.Math.ListN.{get_or-append}
use mathlib.Core.Logic.{inl, inr}
use Rattle.std.proofs.lemmas.List.Elements.{filter-append}
use Rattle.std.proofs.lemmas.List.Filters.{length-filter_more, length-filter_both}
use Rattle.list_laws.specs.Lists.{joined}
use Rattle.list_laws.proofs.JoinedLists.{joined_more}
use Rattle.plan_model.specs.Plans.{Plan, session, slot, slots}
use Rattle.plan_model.specs.Sound.{IsSound}
use Rattle.plan_model.specs.declared.key.Key.{Key}
use Rattle.plan_model.specs.declared.pattern.Transfer.{Transfer}
use Rattle.plan_model.specs.Messages.{messages}
use Rattle.plan_model.specs.Numbers.{message, no_key}
use Rattle.plan_model.specs.Firsts.{count, first}
use Rattle.plan_model.specs.Patterns.{named, pattern_at, transfers}
use Rattle.plan_model.proofs.PlanSchemes.{plan_is}
use Rattle.plan_model.proofs.Slots.{few_slots}
use Rattle.plan_model.proofs.DistinctMessages.{every_place}
use Rattle.plan_model.proofs.NamedTransfers.{message_is, message_there}
use Rattle.plan_model.proofs.RankSearch.{no_transfer}
use Rattle.program_model.specs.Proper.{Proper}
use Rattle.program_laws.specs.Once.{IsBetweenParties}
use Rattle.program_laws.proofs.MessageParties.{between}
use Rattle.program_laws.proofs.SentMessages.{givers}
use Rattle.program_laws.proofs.OncePosted.{once}
use Rattle.program_laws.proofs.ProperPrograms.{proper_at}
use Rattle.frame_code.specs.Frames.{FitsFrame}
use Rattle.node_talk.specs.Talks.{Node, goes, messages_between}
use Rattle.node_talk.proofs.PassedLists.{every_filtered, every_from_places}
use Rattle.link_reader.specs.Expected.{AllFitFrames, ArePlaced, HasPlaces, sent_before}

abbrev pub place_in : Plan → ℕ → ℕ → ℕ
place_in plan me m = sent_before plan (message plan m).sender me m

module _ (plan : Plan) (q me : ℕ) where
  pub one_more : (m : ℕ) → m < length (messages plan) → goes q me (message plan m) ≡ true → sent_before plan q me (m + 1) ≡ sent_before plan q me m + 1
  one_more m l is = length-filter_more (goes q me) (messages plan) m no_key l ∙ ap (λ b. sent_before plan q me m + cond b 1 0) is

  pub no_more : (m : ℕ) → m < length (messages plan) → goes q me (message plan m) ≡ false → sent_before plan q me (m + 1) ≡ sent_before plan q me m
  no_more m l is = length-filter_more (goes q me) (messages plan) m no_key l ∙ ap (λ b. sent_before plan q me m + cond b 1 0) is ∙ omega arith

pub at_most : (test : Key → Bool) (xs : List Key) → length (filter test xs) ≤ length xs
at_most test xs = let e = length-filter_both test (λ x. not (test x)) (λ x. refl) xs in omega arith

pub few_before : (plan : Plan) (q me m : ℕ) → sent_before plan q me m ≤ m
few_before plan q me m = let a = at_most (goes q me) (take m (messages plan)) in let b = length-take m (messages plan) in omega arith

-- a message of another sender, or to another receiver
goes_not_from : (key : Key) (q me : ℕ) → key.sender ≢ q → goes q me key ≡ false
goes_not_from key q me ne = ap (λ b. b && nat_eq key.receiver me) (ne_eqb key.sender q ne)

goes_not_to : (key : Key) (q me : ℕ) → key.receiver ≢ me → goes q me key ≡ false
goes_not_to key q me ne = ap (λ b. nat_eq key.sender q && b) (ne_eqb key.receiver me ne) ∙ and_false (nat_eq key.sender q)
  where
    and_false : (b : Bool) → (b && false) ≡ false
    and_false true = refl
    and_false false = refl

module _ (plan : Plan) (me n : ℕ) (l : n < length (messages plan)) where
  pub place_more : (places : List ℕ) (x : ℕ) → length places ≡ n → ((m : ℕ) → m < n → slice_index places m ≡ place_in plan me m) → x ≡ place_in plan me n
      → (m : ℕ) → m < n + 1 → slice_index (places ++ x ∷ []) m ≡ place_in plan me m
  place_more places x long h here m lm = elim (cases_lt m n) [
    | inl before ↦ get_or-append places (x ∷ []) 0 m (omega arith) ∙ h m before
    | inr past ↦
        let last : m ≡ length places + 0 = omega arith in
        ap (λ z. slice_index (places ++ x ∷ []) z) last ∙ get_or-append-add places (x ∷ []) 0 0 ∙ here ∙ ap (place_in plan me) (let e : n ≡ m = omega arith in e)
  ]

  module _ (counts : List ℕ) (many : length counts ≡ plan.parties) (h : (q : ℕ) → q < plan.parties → slice_index counts q ≡ sent_before plan q me n) where
    -- the message goes to this party
    pub count_more : (s x : ℕ) → s < plan.parties → (message plan n).sender ≡ s → (message plan n).receiver ≡ me → x ≡ slice_index counts s + 1
        → (q : ℕ) → q < plan.parties → slice_index (set counts s x) q ≡ sent_before plan q me (n + 1)
    count_more s x ls sender receiver is q lq = elim (cases_eq q s) [
      | inl e ↦
          ap (slice_index (set counts s x)) e ∙ get_or-set_same counts s x 0 (omega arith) ∙ is ∙ ap (λ z. slice_index counts z + 1) (sym e) ∙ ap (λ z. z + 1) (h q lq)
          ∙ sym (one_more plan q me n l (and_from (nat_eq (message plan n).sender q) (nat_eq (message plan n).receiver me) (eq-eqb _ _ (sender ∙ sym e)) (eq-eqb _ _ receiver)))
      | inr ne ↦ get_or-set_other counts s q x 0 ne ∙ h q lq ∙ sym (no_more plan q me n l (goes_not_from (message plan n) q me (λ e. ne (sym e ∙ sender))))
    ]

    -- the message goes to another
    pub count_same : (message plan n).receiver ≢ me → (q : ℕ) → q < plan.parties → slice_index counts q ≡ sent_before plan q me (n + 1)
    count_same ne q lq = h q lq ∙ sym (no_more plan q me n l (goes_not_to (message plan n) q me ne))

-- ---- slot by slot

pub between_parties : (plan : Plan) → IsSound plan → (m : ℕ) → m < length (messages plan) → IsBetweenParties plan (message plan m)
between_parties plan h m lm = between plan m (plan_is plan h) (givers plan h) lm

-- the message of this number is this one, and its sender is a party
pub record IsSent (plan : Plan) (n : ℕ) (key : Key) : Type 0 where
  pub there : n < length (messages plan)
  pub is : message plan n ≡ key
  pub sender : key.sender < plan.parties

-- one part of the messages more
pub filter_more : (test : Key → Bool) (n : ℕ) (f : ℕ → List Key) → filter test (joined n f) ++ filter test (f n) ≡ filter test (joined (n + 1) f)
filter_more test n f = sym (ap (filter test) (joined_more n f) ∙ filter-append test (joined n f) (f n))

-- behind what stands before
pub filter_behind : (test : Key → Bool) (n : ℕ) (f : ℕ → List Key) (front xs more : List Key) → xs ≡ front ++ filter test (joined n f) → more ≡ xs ++ filter test (f n) → more ≡ front ++ filter test (joined (n + 1) f)
filter_behind test n f front xs more before is =
    is ∙ ap (λ keys. keys ++ filter test (f n)) before ∙ append_assoc front (filter test (joined n f)) (filter test (f n)) ∙ ap (λ keys. front ++ keys) (filter_more test n f)

module _ (plan : Plan) (s k : ℕ) (xs : List Transfer) (are : xs ≡ transfers plan (pattern_at plan s k)) (ls : s < length plan.sessions) (lk : k < slots plan s) (i : ℕ) (l : i < length xs) where
  -- a party sends transfer i of a slot, which is the message of this number
  pub transfer_is : IsSound plan → (key : Key) → key ≡ named s k (slice_index_or xs i no_transfer) → IsSent plan (first plan s k + i) key
  transfer_is sound key told =
      let is : message plan (first plan s k + i) ≡ key = message_is plan s k xs are ls lk i l key told in
      let there = message_there plan s k xs are ls lk i l in
      record {
        there = there;
        is = is;
        sender = subst (λ z. z.sender < plan.parties) is (between_parties plan sound (first plan s k + i) there).sender;
      }

-- the places of all messages
pub has_places : (n : Node) (plan : Plan) (me : ℕ) (places counts : List ℕ) → ArePlaced plan me (length (messages plan)) places counts → n.world.plan ≡ plan → n.me ≡ me → HasPlaces n places
has_places n plan me places counts h same_plan same_me =
    let own = subst (λ p. ArePlaced p n.me (length (messages p)) places counts) (sym same_plan) (subst (λ p. ArePlaced plan p (length (messages plan)) places counts) (sym same_me) h) in
    record { count = own.long; each = own.each }

-- ---- frames

-- a frame has room for the name of each message
pub fits_frame : (plan : Plan) → IsSound plan → (m : ℕ) → m < length (messages plan) → FitsFrame (message plan m)
fits_frame plan h m lm =
    let key : Key = message plan m in
    let o = once plan m (plan_is plan h) lm in
    let b = between_parties plan h m lm in
    let p = subst (Proper plan key.session) o.posted.stands (proper_at plan h key.session key.sender o.session_there b.sender o.posted.position) in
    let few = few_slots (session plan key.session) (h.sessions key.session o.session_there).wired in
    record {
      session = (let a = o.session_there in let c = h.few_sessions in omega arith);
      slot = (let a = o.slot_there in omega arith);
      share = (let a = p.share in let c = h.groups in omega arith);
      sender = (let a = b.sender in let c = h.parties in omega arith);
      receiver = (let a = b.receiver in let c = h.parties in omega arith);
    }

pub all_fit : (plan : Plan) → IsSound plan → (p q : ℕ) → AllFitFrames (messages_between plan p q)
all_fit plan h p q = λ place l.
    every_place (λ key. FitsFrame key) (messages_between plan p q) place no_key
    (every_filtered (goes p q) (λ key. FitsFrame key) (messages plan) (every_from_places (λ key. goes p q key ≡ true → FitsFrame key) (messages plan) no_key (λ m lm passes. fits_frame plan h m lm))) l
