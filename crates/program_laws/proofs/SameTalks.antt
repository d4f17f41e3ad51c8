-- By batches a party posts what it posts slot after slot, and in the same order; and so it takes.
use Rattle.std.proofs.Common.{◌≡◌, ◌⊎◌, ℕ, zero, suc, ◌+◌, ◌-◌, Bool, true, false, List, [], ◌∷◌, ◌++◌, map, flat_map, length, refl, sym, ap, ap₂, ◌∙◌, arith, append-nil, length-append}
use Rattle.std.specs.List.{AllByRecursion, filter}
use Rattle.std.proofs.lemmas.Grind.{flat_map-append}
use mathlib.Core.Logic.{inl, inr}
use Rattle.list_laws.specs.Lists.{joined}
use Rattle.plan_model.specs.Plans.{Plan, session, slot, slots}
use Rattle.plan_model.specs.Firsts.{numbers}
use Rattle.plan_model.specs.Numbers.{message, deals_before}
use Rattle.job_session.specs.Batches.{batch}
use Rattle.program_model.specs.declared.instruction.Instruction.{Instruction}
use Rattle.program_model.specs.declared.instruction.Instruction.TheVariants.{Draw, Deal, Post, Take, Linear, Own, Sum, Open, Join, Deliver}
use Rattle.program_model.specs.Programs.{from, to, post, take_of, passes, passed, opening, closing, posts, taken, takes, head, tail, tails, program, slot_program}
use Rattle.program_laws.specs.Talks.{post_no, take_no}
use Rattle.program_laws.proofs.BatchRuns.{IsKept, whole}
use Rattle.program_laws.proofs.ProgramParts.{every_opening, every_closing}

none_told : {A : Type 0} (f : Instruction → List A) (es : List Instruction) → AllByRecursion (λ e. f e ≡ []) es → flat_map f es ≡ []
none_told f [] h = refl
none_told f (e ∷ es) h = ap (λ z. z ++ flat_map f es) h.0 ∙ none_told f es h.1

map_told : (f : Instruction → List ℕ) (g : ℕ → Instruction) (ns : List ℕ) → ((n : ℕ) → f (g n) ≡ n ∷ []) → flat_map f (map g ns) ≡ ns
map_told f g [] h = refl
map_told f g (n ∷ ns) h = ap₂ (λ x y. x ++ y) (h n) (map_told f g ns h)

map_quiet : {A : Type 0} (f : Instruction → List A) (g : ℕ → Instruction) (ns : List ℕ) → ((n : ℕ) → f (g n) ≡ []) → flat_map f (map g ns) ≡ []
map_quiet f g [] h = refl
map_quiet f g (n ∷ ns) h = ap₂ (λ x y. x ++ y) (h n) (map_quiet f g ns h)

told_joined : {A : Type 0} (f : Instruction → List A) (n : ℕ) (g : ℕ → List Instruction) → flat_map f (joined n g) ≡ joined n (λ k. flat_map f (g k))
told_joined f zero g = refl
told_joined f (suc n) g = flat_map-append f (joined n g) (g n) ∙ ap (λ z. z ++ flat_map f (g n)) (told_joined f n g)

-- the message that an instruction posts, or else takes
abbrev pub told : Bool → Instruction → List ℕ
told true = post_no
told false = take_no

-- it posts and takes nothing
abbrev pub IsOwn : Instruction → Type 0
IsOwn (Post n i) = ⊥
IsOwn (Take n i) = ⊥
IsOwn _ = Unit {0}

module _ (plan : Plan) (s p : ℕ) where
  -- what is told by heads alone, or by tails alone, stays
  module _ {A : Type 0} (f : Instruction → List A) (quiet : ((k : ℕ) → flat_map f (head plan p s k) ≡ []) ⊎ ((k : ℕ) → flat_map f (tail plan p s k) ≡ [])) where
    abbrev Same : List Instruction → List Instruction → Type 0
    Same xs ys = flat_map f xs ≡ flat_map f ys

    telling : IsKept Same
    telling = record {
      equal = λ xs ys e. ap (flat_map f) e;
      on = λ xs ys zs a b. a ∙ b;
      within = λ fs xs ys bs h. flat_map-append f (fs ++ xs) bs ∙ ap (λ z. z ++ flat_map f bs) (flat_map-append f fs xs ∙ ap (λ z. flat_map f fs ++ z) h ∙ sym (flat_map-append f fs ys)) ∙ sym (flat_map-append f (fs ++ ys) bs);
    }

    exchange : (ts es : List Instruction) → (flat_map f es ≡ []) ⊎ (flat_map f ts ≡ []) → Same (ts ++ es) (es ++ ts)
    exchange ts es none = flat_map-append f ts es ∙ elim none [
      | inl e ↦ ap (λ z. flat_map f ts ++ z) e ∙ append-nil (flat_map f ts) ∙ sym (ap (λ z. z ++ flat_map f ts) e)
      | inr e ↦ ap (λ z. z ++ flat_map f es) e ∙ sym (append-nil (flat_map f es)) ∙ sym (ap (λ z. flat_map f es ++ z) e)
    ] ∙ sym (flat_map-append f es ts)

    nothing : (n : ℕ) (g : ℕ → List A) → ((k : ℕ) → g k ≡ []) → joined n g ≡ []
    nothing zero g h = refl
    nothing (suc n) g h = ap₂ (λ x y. x ++ y) (nothing n g h) (h n)

    pub told_stays : flat_map f (program plan p s) ≡ flat_map f (joined (slots plan s) (slot_program plan p s))
    told_stays = sym (whole (session plan s) (head plan p s) (tail plan p s) Same telling (λ k lk. exchange (tails plan p s (batch (session plan s) k) k) (head plan p s k) (elim quiet [
      | inl heads ↦ inl (heads k)
      | inr ends ↦
          let a : ℕ = batch (session plan s) k in
          inr (told_joined f (k - a) (λ j. tail plan p s (a + j)) ∙ nothing (k - a) (λ j. flat_map f (tail plan p s (a + j))) (λ j. ends (a + j)))
    ])))

  -- ---- posts and takes

  -- an instruction that posts or takes no message tells nothing
  abbrev pub Quiet : {A : Type 0} → (Instruction → List A) → Type 0
  Quiet f = (e : Instruction) → IsOwn e → f e ≡ []

  module _ {A : Type 0} (f : Instruction → List A) (own : Quiet f) where
    opening_tells : (k : ℕ) → flat_map f (opening plan p s k (slot plan s k)) ≡ []
    opening_tells k = none_told f _ (every_opening plan s p (λ e. f e ≡ []) k (record {
      draws = λ t side e some. own (Draw k) tt;
      inputs = λ v e b. own (Deal k (deals_before plan p s k)) tt;
      products = λ z e is b. (own (Own k) tt, own (Deal k (deals_before plan p s k)) tt);
      linears = λ t e b. own (Linear k) tt;
    }))

    closing_tells : (k : ℕ) → flat_map f (closing plan p s k (slot plan s k)) ≡ []
    closing_tells k = none_told f _ (every_closing plan s p (λ e. f e ≡ []) k (record {
      sums = λ z e is. own (Sum k) tt;
      opens = λ t side e. own (Open k) tt;
      joins = λ t e b. own (Join k) tt;
      delivers = λ o e. own (Deliver k) tt;
    }))

    pub quiet_head : ((n i : ℕ) → f (Post n i) ≡ []) → (k : ℕ) → flat_map f (head plan p s k) ≡ []
    quiet_head posts' k = flat_map-append f (opening plan p s k (slot plan s k)) (posts plan p s k) ∙ ap₂ (λ x y. x ++ y) (opening_tells k) (map_quiet f (post plan) (filter (from plan p) (numbers plan s k)) (λ n. posts' n (message plan n).share))

    pub quiet_tail : ((n i : ℕ) → f (Take n i) ≡ []) → (k : ℕ) → flat_map f (tail plan p s k) ≡ []
    quiet_tail takes' k = flat_map-append f (takes plan p s k) (closing plan p s k (slot plan s k)) ∙ ap₂ (λ x y. x ++ y) (map_quiet f (take_of plan) (filter (to plan p) (taken plan s k)) (λ n. takes' n (message plan n).share)) (closing_tells k)

  no_posts : Quiet post_no
  no_posts (Post n i) h = absurd h
  no_posts _ h = refl

  no_takes : Quiet take_no
  no_takes (Take n i) h = absurd h
  no_takes _ h = refl

  head_posts : (k : ℕ) → flat_map post_no (head plan p s k) ≡ filter (from plan p) (numbers plan s k)
  head_posts k = flat_map-append post_no (opening plan p s k (slot plan s k)) (posts plan p s k) ∙ ap₂ (λ x y. x ++ y) (opening_tells post_no no_posts k) (map_told post_no (post plan) _ (λ n. refl))

  head_takes : (k : ℕ) → flat_map take_no (head plan p s k) ≡ []
  head_takes = quiet_head take_no no_takes (λ n i. refl)

  tail_posts : (k : ℕ) → flat_map post_no (tail plan p s k) ≡ []
  tail_posts = quiet_tail post_no no_posts (λ n i. refl)

  tail_takes : (k : ℕ) → flat_map take_no (tail plan p s k) ≡ filter (to plan p) (taken plan s k)
  tail_takes k = flat_map-append take_no (takes plan p s k) (closing plan p s k (slot plan s k)) ∙ ap₂ (λ x y. x ++ y) (map_told take_no (take_of plan) _ (λ n. refl)) (closing_tells take_no no_takes k) ∙ append-nil _

  pub posts_stay : flat_map post_no (program plan p s) ≡ flat_map post_no (joined (slots plan s) (slot_program plan p s))
  posts_stay = told_stays post_no (inr tail_posts)

  pub takes_stay : flat_map take_no (program plan p s) ≡ flat_map take_no (joined (slots plan s) (slot_program plan p s))
  takes_stay = told_stays take_no (inl head_takes)

  -- the numbers that p posts in a slot, or else takes there
  pub slot_told : (b : Bool) (k : ℕ) → flat_map (told b) (slot_program plan p s k) ≡ filter (passes b plan p) (passed b plan s k)
  slot_told true k = flat_map-append post_no (head plan p s k) (tail plan p s k) ∙ ap₂ (λ x y. x ++ y) (head_posts k) (tail_posts k) ∙ append-nil _
  slot_told false k = flat_map-append take_no (head plan p s k) (tail plan p s k) ∙ ap₂ (λ x y. x ++ y) (head_takes k) (tail_takes k)

  -- ---- and it does as many instructions

  abbrev AsLong : List Instruction → List Instruction → Type 0
  AsLong xs ys = length xs ≡ length ys

  pub as_long : length (program plan p s) ≡ length (joined (slots plan s) (slot_program plan p s))
  as_long = sym (whole (session plan s) (head plan p s) (tail plan p s) AsLong (record {
    equal = λ xs ys e. ap length e;
    on = λ xs ys zs a b. a ∙ b;
    within = λ fs xs ys bs h. omega (arith, length-append (fs ++ xs) bs, length-append fs xs, length-append (fs ++ ys) bs, length-append fs ys, h);
  }) (λ k lk. omega (arith, length-append (tails plan p s (batch (session plan s) k) k) (head plan p s k), length-append (head plan p s k) (tails plan p s (batch (session plan s) k) k))))
