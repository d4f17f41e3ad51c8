-- Which messages of a slot come to a party, and what their words add up to.
use Rattle.std.proofs.Common.{◌≡◌, ◌⊎◌, ℕ, zero, suc, ◌+◌, ◌<◌, ◌≢◌, Bool, true, false, not, ◌&&◌, nat_eq, if◌then◌else◌, List, [], ◌∷◌, ◌++◌, map, length, refl, sym, ap, ap₂, ◌∙◌, subst, arith}
use Rattle.std.specs.List.{filter}
use Rattle.std.proofs.lemmas.Bool.{cases_eq, cases_Bool, cond-true, cond-false, eq-eqb, ne_eqb, and_from, and_left, not_from_false, not_from_true, both_ways}
use mathlib.Core.Logic.{inl, inr}
use Rattle.list_laws.specs.Lists.{total, joined, only_if}
use Rattle.plan_model.specs.Plans.{Plan, is_holder}
use Rattle.plan_model.specs.declared.key.Key.{Key}
use Rattle.plan_model.specs.Messages.{deal_message, deal_messages}
use Rattle.plan_model.specs.Numbers.{message}
use Rattle.list_laws.proofs.Totals.{total_eq, total_zero, total_one}
use Rattle.program_model.specs.Programs.{to}
use Rattle.program_model.specs.States.{Given}
use Rattle.program_laws.proofs.SlotTakes.{tally, Has}

pub total_only : (n k : ℕ) (f : ℕ → ℕ) → k < n → ((j : ℕ) → j < n → j ≢ k → f j ≡ 0) → total n f ≡ f k
total_only n k f l h =
    let none : total n (λ j. 0) ≡ 0 = total_zero n (λ j. 0) (λ j b. refl) in
    let one : total n f + 0 ≡ total n (λ j. 0) + f k = total_one n k f (λ j. 0) l h in
    omega arith

-- ---- keys to p of summand i

abbrev pub Any : ℕ → ℕ → List Key → Type 0
Any p i [] = ⊥
Any p i (x ∷ xs) = ((x.receiver ≡ p) × (x.share ≡ i)) ⊎ Any p i xs

any_left : (p i : ℕ) (xs ys : List Key) → Any p i xs → Any p i (xs ++ ys)
any_left p i [] ys h = absurd h
any_left p i (x ∷ xs) ys (inl a) = inl a
any_left p i (x ∷ xs) ys (inr b) = inr (any_left p i xs ys b)

any_right : (p i : ℕ) (xs ys : List Key) → Any p i ys → Any p i (xs ++ ys)
any_right p i [] ys h = h
any_right p i (x ∷ xs) ys h = inr (any_right p i xs ys h)

pub any_joined : (p i n k : ℕ) (f : ℕ → List Key) → k < n → Any p i (f k) → Any p i (joined n f)
any_joined p i zero k f l h = absurd (omega arith)
any_joined p i (suc n) k f l h = elim (cases_eq k n) [
  | inl e ↦ any_right p i (joined n f) (f n) (subst (λ z. Any p i (f z)) e h)
  | inr ne ↦ any_left p i (joined n f) (f n) (any_joined p i n k f (omega arith) h)
]

-- where each summand is dealt by a sender of its own
pub row_any : (plan : Plan) (s k : ℕ) (sender : ℕ → ℕ) (p i : ℕ) → p < plan.parties → i < length plan.groups → p ≢ sender i → is_holder plan p i ≡ true → Any p i (joined (length plan.groups) (λ j. joined plan.parties (deal_message plan s k (sender j) j)))
row_any plan s k sender p i lp li ne has =
    any_joined p i (length plan.groups) i (λ j. joined plan.parties (deal_message plan s k (sender j) j)) li
    (any_joined p i plan.parties p (deal_message plan s k (sender i) i) lp
    (subst (Any p i) (sym (cond-true (not (nat_eq p (sender i)) && is_holder plan p i) _ [] (and_from _ _ (not_from_false _ (ne_eqb p (sender i) ne)) has))) (inl (refl, refl))))

pub deal_any : (plan : Plan) (s k o p i : ℕ) → p < plan.parties → i < length plan.groups → p ≢ o → is_holder plan p i ≡ true → Any p i (deal_messages plan s k o)
deal_any plan s k o = row_any plan s k (λ j. o)

pub any_number : (plan : Plan) (p i : ℕ) (ns : List ℕ) → Any p i (map (message plan) ns) → Has plan i (filter (to plan p) ns)
any_number plan p i [] h = absurd h
any_number plan p i (n ∷ ns) h = elim (cases_Bool (to plan p n)) [
  | inl yes' ↦ subst (Has plan i) (sym (cond-true (to plan p n) (n ∷ filter (to plan p) ns) (filter (to plan p) ns) yes')) (elim h [ inl a ↦ inl a.1 | inr b ↦ inr (any_number plan p i ns b) ])
  | inr no' ↦ subst (Has plan i) (sym (cond-false (to plan p n) (n ∷ filter (to plan p) ns) (filter (to plan p) ns) no')) (elim h [
    | inl a ↦ absurd (both_ways (to plan p n) no' (eq-eqb (message plan n).receiver p a.0))
    | inr b ↦ any_number plan p i ns b
  ])
]

-- ---- sums

abbrev pub weight : (Key → ℕ) → ℕ → ℕ → Key → ℕ
weight got p i x = if nat_eq x.receiver p then (if nat_eq i x.share then got x else 0) else 0

abbrev pub key_tally : (Key → ℕ) → ℕ → ℕ → List Key → ℕ
key_tally got p i [] = 0
key_tally got p i (x ∷ xs) = weight got p i x + key_tally got p i xs

pub tally_is : (l : Given) (got : Key → ℕ) (p i : ℕ) (ns : List ℕ) → ((n : ℕ) → l.got n ≡ got (message l.plan n)) → tally l i (filter (to l.plan p) ns) ≡ key_tally got p i (map (message l.plan) ns)
tally_is l got p i [] g = refl
tally_is l got p i (n ∷ ns) g =
    let rest = tally_is l got p i ns g in
    let x : Key = message l.plan n in
    elim (cases_Bool (to l.plan p n)) [
      | inl yes' ↦ ap (tally l i) (cond-true (to l.plan p n) (n ∷ filter (to l.plan p) ns) (filter (to l.plan p) ns) yes')
          ∙ ap₂ (λ a b. (if nat_eq i x.share then a else 0) + b) (g n) rest
          ∙ ap (λ a. a + key_tally got p i (map (message l.plan) ns)) (sym (cond-true (nat_eq x.receiver p) (if nat_eq i x.share then got x else 0) 0 yes'))
      | inr no' ↦ ap (tally l i) (cond-false (to l.plan p n) (n ∷ filter (to l.plan p) ns) (filter (to l.plan p) ns) no')
          ∙ rest
          ∙ (let none : weight got p i x ≡ 0 = cond-false (nat_eq x.receiver p) _ 0 no' in omega arith)
    ]

key_tally-append : (got : Key → ℕ) (p i : ℕ) (xs ys : List Key) → key_tally got p i (xs ++ ys) ≡ key_tally got p i xs + key_tally got p i ys
key_tally-append got p i [] ys = omega arith
key_tally-append got p i (x ∷ xs) ys = let rest = key_tally-append got p i xs ys in omega arith

pub key_tally-joined : (got : Key → ℕ) (p i n : ℕ) (f : ℕ → List Key) → key_tally got p i (joined n f) ≡ total n (λ k. key_tally got p i (f k))
key_tally-joined got p i zero f = refl
key_tally-joined got p i (suc n) f = key_tally-append got p i (joined n f) (f n) ∙ ap (λ z. z + key_tally got p i (f n)) (key_tally-joined got p i n f)

pub key_tally-only_if : (got : Key → ℕ) (p i : ℕ) (b : Bool) (xs : List Key) → key_tally got p i (only_if b xs) ≡ (if b then key_tally got p i xs else 0)
key_tally-only_if got p i true xs = refl
key_tally-only_if got p i false xs = refl

pub one_tally : (got : Key → ℕ) (p i : ℕ) (b : Bool) (x : Key) → key_tally got p i (only_if b (x ∷ [])) ≡ (if b then weight got p i x else 0)
one_tally got p i true x = omega arith
one_tally got p i false x = refl

pub no_words : (b : Bool) → ◌≡◌ {A = ℕ} (if b then 0 else 0) 0
no_words true = refl
no_words false = refl

module _ (plan : Plan) (got : Key → ℕ) (s k p i : ℕ) (lp : p < plan.parties) (li : i < length plan.groups) (has : is_holder plan p i ≡ true) where
  abbrev key : ℕ → ℕ → ℕ → Key
  key d j r = record { session = s; slot = k; share = j; sender = d; receiver = r }

  abbrev test : ℕ → ℕ → ℕ → Bool
  test d j r = not (nat_eq r d) && is_holder plan r j

  pub deal_tally : (d : ℕ) → key_tally got p i (deal_messages plan s k d) ≡ (if nat_eq d p then 0 else got (key d i p))
  deal_tally d =
      let row : ℕ → ℕ = λ j. total plan.parties (λ r. if test d j r then weight got p i (key d j r) else 0) in
      let rows : (j : ℕ) → key_tally got p i (joined plan.parties (deal_message plan s k d j)) ≡ row j = λ j.
      key_tally-joined got p i plan.parties (deal_message plan s k d j) ∙ total_eq plan.parties _ _ (λ r lr. one_tally got p i (test d j r) (key d j r)) in
      let other : (j r : ℕ) → r ≢ p → (if test d j r then weight got p i (key d j r) else 0) ≡ 0 = λ j r ne.
      ap (λ z. if test d j r then z else 0) (cond-false (nat_eq r p) _ 0 (ne_eqb r p ne)) ∙ no_words (test d j r) in
      let column : (j : ℕ) → row j ≡ (if test d j p then weight got p i (key d j p) else 0) = λ j. total_only plan.parties p _ lp (λ r lr ne. other j r ne) in
      let elsewhere : (j : ℕ) → j ≢ i → row j ≡ 0 = λ j ne. column j ∙ ap (λ z. if test d j p then z else 0) (cond-true (nat_eq p p) _ 0 (eq-eqb p p refl) ∙ cond-false (nat_eq i j) _ 0 (ne_eqb i j (λ e. ne (sym e)))) ∙ no_words (test d j p) in
      key_tally-joined got p i (length plan.groups) (λ j. joined plan.parties (deal_message plan s k d j))
      ∙ total_eq (length plan.groups) _ row (λ j lj. rows j)
      ∙ total_only (length plan.groups) i row li (λ j lj ne. elsewhere j ne)
      ∙ column i
      ∙ ap (λ z. if test d i p then z else 0) (cond-true (nat_eq p p) _ 0 (eq-eqb p p refl) ∙ cond-true (nat_eq i i) _ 0 (eq-eqb i i refl))
      ∙ elim (cases_eq d p) [
        | inl e ↦ cond-false (test d i p) _ 0 (and_left _ _ (not_from_true _ (eq-eqb p d (sym e)))) ∙ sym (cond-true (nat_eq d p) 0 _ (eq-eqb d p e))
        | inr ne ↦ cond-true (test d i p) _ 0 (and_from _ _ (not_from_false _ (ne_eqb p d (λ e. ne (sym e)))) has) ∙ sym (cond-false (nat_eq d p) 0 _ (ne_eqb d p ne))
      ]
