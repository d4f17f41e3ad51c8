-- The posts of p to q, in the order of its instructions, are the messages from p to q in the order of their numbers.
use Rattle.std.proofs.Common.{◌≡◌, ℕ, zero, suc, ◌<◌, ◌≤◌, List, [], ◌∷◌, ◌++◌, length, take, map, refl, sym, ap, ap₂, ◌∙◌, arith, append_assoc}
use Rattle.std.specs.Prelude.{filter}
use Rattle.std.specs.List.{flat_map, AllByRecursion}
use Rattle.std.proofs.lemmas.Bool.{cases_Bool, cond-true, cond-false, and_from, and_left, and_right}
use Rattle.std.proofs.lemmas.List.{append-nil, take_all}
use Rattle.std.proofs.lemmas.Grind.{flat_map-append}
use mathlib.Core.Logic.{inl, inr}
use Rattle.list_laws.specs.Lists.{joined}
use Rattle.list_laws.proofs.JoinedLists.{joined_eq}
use Rattle.plan_model.specs.Plans.{Plan, slot, slots}
use Rattle.plan_model.specs.declared.key.Key.{Key}
use Rattle.plan_model.specs.Firsts.{numbers}
use Rattle.plan_model.specs.Messages.{slot_messages, session_messages}
use Rattle.plan_model.specs.Numbers.{message}
use Rattle.plan_model.proofs.SlotMessages.{keys_are}
use Rattle.program_model.specs.declared.instruction.Instruction.{Instruction}
use Rattle.program_model.specs.declared.instruction.Instruction.TheVariants.{Post}
use Rattle.program_model.specs.Programs.{program, at, from, to, post, opening, posts, head, tail, slot_program}
use Rattle.program_laws.proofs.ProgramParts.{every_opening}
use Rattle.program_laws.proofs.SameTalks.{Quiet, quiet_tail, told_stays}
use Rattle.node_talk.specs.Talks.{framing, Node, acts, goes, messages_between, stream, post_to, posts_to, TalkIsSaid}
use Rattle.node_talk.proofs.PassedLists.{filter_joined}

pub flat_joined : {A : Type 0} (f : Instruction → List A) (n : ℕ) (g : ℕ → List Instruction) → flat_map f (joined n g) ≡ joined n (λ k. flat_map f (g k))
flat_joined f zero g = refl
flat_joined f (suc n) g = flat_map-append f (joined n g) (g n) ∙ ap (λ z. z ++ flat_map f (g n)) (flat_joined f n g)

none_of : {A : Type 0} (f : Instruction → List A) (es : List Instruction) → AllByRecursion (λ e. f e ≡ []) es → flat_map f es ≡ []
none_of f [] h = refl
none_of f (e ∷ es) h = ap₂ (λ a b. a ++ b) h.0 (none_of f es h.1)

-- ---- one session, where p goes slot by slot

module _ (plan : Plan) (p q s : ℕ) where
  abbrev sent : Instruction → List Key
  sent = post_to plan q

  quiet : Quiet plan s p sent
  quiet (Post m i) own = absurd own
  quiet _ own = refl

  tail_posts : (k : ℕ) → flat_map sent (tail plan p s k) ≡ []
  tail_posts = quiet_tail plan s p sent quiet (λ n i. refl)

  opening_posts : (k : ℕ) → flat_map sent (opening plan p s k (slot plan s k)) ≡ []
  opening_posts k = none_of sent _ (every_opening plan s p (λ e. sent e ≡ []) k (record {
    draws = λ t side is some. refl;
    inputs = λ v is gives. refl;
    products = λ z is product pair. (refl, refl);
    linears = λ t is linear. refl;
  }))

  posted_keys : (ns : List ℕ) → flat_map sent (map (post plan) (filter (from plan p) ns)) ≡ filter (goes p q) (map (message plan) ns)
  posted_keys [] = refl
  posted_keys (n ∷ ns) =
      let rest : List Key = filter (goes p q) (map (message plan) ns) in
      elim (cases_Bool (from plan p n)) [
        | inl is ↦ ap (λ z. flat_map sent (map (post plan) z)) (cond-true (from plan p n) (n ∷ filter (from plan p) ns) (filter (from plan p) ns) is)
            ∙ elim (cases_Bool (to plan q n)) [
              | inl t ↦ ap₂ (λ a b. a ++ b) (cond-true (to plan q n) (message plan n ∷ []) [] t) (posted_keys ns)
                  ∙ sym (cond-true (goes p q (message plan n)) (message plan n ∷ rest) rest (and_from (from plan p n) (to plan q n) is t))
              | inr t ↦ ap₂ (λ a b. a ++ b) (cond-false (to plan q n) (message plan n ∷ []) [] t) (posted_keys ns)
                  ∙ sym (cond-false (goes p q (message plan n)) (message plan n ∷ rest) rest (and_right (from plan p n) (to plan q n) t))
            ]
        | inr is ↦ ap (λ z. flat_map sent (map (post plan) z)) (cond-false (from plan p n) (n ∷ filter (from plan p) ns) (filter (from plan p) ns) is)
            ∙ posted_keys ns
            ∙ sym (cond-false (goes p q (message plan n)) (message plan n ∷ rest) rest (and_left (from plan p n) (to plan q n) is))
      ]

  slot_posts : (k : ℕ) → flat_map sent (slot_program plan p s k) ≡ filter (goes p q) (map (message plan) (numbers plan s k))
  slot_posts k =
      flat_map-append sent (head plan p s k) (tail plan p s k)
      ∙ ap₂ (λ a b. a ++ b) (flat_map-append sent (opening plan p s k (slot plan s k)) (posts plan p s k) ∙ ap₂ (λ a b. a ++ b) (opening_posts k) (posted_keys (numbers plan s k))) (tail_posts k)
      ∙ append-nil (filter (goes p q) (map (message plan) (numbers plan s k)))

  session_posts : s < length plan.sessions → flat_map sent (program plan p s) ≡ filter (goes p q) (session_messages plan s)
  session_posts ls =
      told_stays plan s p sent (inr tail_posts)
      ∙ flat_joined sent (slots plan s) (slot_program plan p s)
      ∙ joined_eq (slots plan s) _ (λ k. filter (goes p q) (slot_messages plan s k (slot plan s k))) (λ k lk. slot_posts k ∙ ap (filter (goes p q)) (keys_are plan s k ls lk))
      ∙ sym (filter_joined (goes p q) (slots plan s) (λ k. slot_messages plan s k (slot plan s k)))

-- ---- all instructions

pub posts_in_order : (plan : Plan) (p q : ℕ) → flat_map (post_to plan q) (joined (length plan.sessions) (program plan p)) ≡ messages_between plan p q
posts_in_order plan p q =
    flat_joined (post_to plan q) (length plan.sessions) (program plan p)
    ∙ joined_eq (length plan.sessions) _ (λ s. filter (goes p q) (session_messages plan s)) (λ s ls. session_posts plan p q s ls)
    ∙ sym (filter_joined (goes p q) (length plan.sessions) (session_messages plan))

pub posts_are_all : (n : Node) (q : ℕ) → posts_to n q (length (acts n)) ≡ messages_between n.world.plan n.me q
posts_are_all n q = ap (λ z. flat_map (post_to n.world.plan q) z) (take_all (length (acts n)) (acts n) (omega arith)) ∙ posts_in_order n.world.plan n.me q

pub talk_is_said : (n : Node) → TalkIsSaid n
talk_is_said n q word = ap (λ z. stream (framing n) n.digest n.me q word z) (posts_are_all n q)

-- ---- the first instructions

module _ {A : Type 0} (f : Instruction → List A) where
  pub gather_step : (es : List Instruction) (k : ℕ) → k < length es → flat_map f (take (suc k) es) ≡ flat_map f (take k es) ++ f (at es k)
  gather_step [] k l = absurd (omega arith)
  gather_step (e ∷ es) zero l = append-nil (f e)
  gather_step (e ∷ es) (suc k) l = ap (λ z. f e ++ z) (gather_step es k (omega arith)) ∙ sym (append_assoc (f e) (flat_map f (take k es)) (f (at es k)))

  pub gather_prefix : (es : List Instruction) (k j : ℕ) → k ≤ j → (rest : List A) × (flat_map f (take j es) ≡ flat_map f (take k es) ++ rest)
  gather_prefix es zero j le = (flat_map f (take j es), refl)
  gather_prefix [] (suc k) zero le = absurd (omega arith)
  gather_prefix [] (suc k) (suc j) le = ([], refl)
  gather_prefix (e ∷ es) (suc k) zero le = absurd (omega arith)
  gather_prefix (e ∷ es) (suc k) (suc j) le =
      let r = gather_prefix es k j (omega arith) in
      (r.0, ap (λ z. f e ++ z) r.1 ∙ sym (append_assoc (f e) (flat_map f (take k es)) r.0))
