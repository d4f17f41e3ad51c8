-- The summands of what is dealt, of a product and of a wire add up.
use Rattle.std.proofs.Common.{◌≡◌, ℕ, zero, suc, ◌+◌, ◌-◌, ◌*◌, ◌%◌, ◌<◌, ◌≤◌, ◌≢◌, Bool, true, false, nat_eq, nat_lt, if◌then◌else◌, refl, sym, ap, ◌∙◌, subst, arith}
use Rattle.std.proofs.lemmas.Bool.{cases_eq, cases_lt, cases_Bool, cond-true, cond-false, cond_both, lt-ltb, le-ltb, or_parts, both_ways}
use Rattle.std.proofs.Math.Nat.{mod-eq_of_lt, mod-lt}
use mathlib.Core.Logic.{inl, inr}
use Rattle.list_laws.specs.Lists.{total, some_below}
use Rattle.mpc_ring.specs.Differences.{difference}
use Rattle.circuit_model.specs.declared.gate.Operation.{Operation}
use Rattle.circuit_model.specs.Circuits.{is_product, operate, values}
use Rattle.circuit_model.specs.declared.gate.Operation.TheVariants.{Add, Sub, Neg, Mul, Xor, And, Inv, Eq, Eqw}
use Rattle.secret_sharing.specs.Schemes.{Scheme, IsScheme, Run, IsRun, AddUp, SumIsPlain, dealt, own_product, has_pair, product_summand, local, gate_summands, summands}
use Rattle.mpc_ring.proofs.Remainders.{Same, same_refl, same_add, same_sym, same_trans, same_mul, same_mod, same_difference, same_cancel, mods_of_same, same_of_mods}
use Rattle.list_laws.proofs.Totals.{total_add, total_mul, total_mul_left, total_eq, total_zero, total_swap, total_one, total_pick}
use Rattle.secret_sharing.proofs.RingTotals.{total_same}

-- ---- one deal

pub dealt_word : (s : Scheme) (v : ℕ) (words : ℕ → ℕ) (i : ℕ) → suc i < s.shares → dealt s v words i ≡ words i
dealt_word s v words i l = cond-true (nat_lt (suc i) s.shares) (words i) _ (lt-ltb (suc i) s.shares l)

pub dealt_last : (s : Scheme) (v : ℕ) (words : ℕ → ℕ) (i : ℕ) → s.shares ≤ suc i → dealt s v words i ≡ difference s.modulus v (total (s.shares - 1) words)
dealt_last s v words i l = cond-false (nat_lt (suc i) s.shares) (words i) _ (le-ltb (suc i) s.shares l)

-- it is a number of the ring, where the words are
pub dealt_small : (s : Scheme) (v : ℕ) (words : ℕ → ℕ) (i : ℕ) → 0 < s.modulus → ((j : ℕ) → words j < s.modulus) → dealt s v words i < s.modulus
dealt_small s v words i positive small = elim (cases_lt (suc i) s.shares) [
  | inl l ↦ subst (λ z. z < s.modulus) (sym (dealt_word s v words i l)) (small i)
  | inr past ↦ subst (λ z. z < s.modulus) (sym (dealt_last s v words i past)) (mod-lt _ positive)
]

-- it reads the words of all summands but the last
pub dealt_eq : (s : Scheme) (v : ℕ) (words others : ℕ → ℕ) (i : ℕ) → ((j : ℕ) → j < s.shares - 1 → words j ≡ others j) → dealt s v words i ≡ dealt s v others i
dealt_eq s v words others i same = elim (cases_lt (suc i) s.shares) [
  | inl l ↦ dealt_word s v words i l ∙ same i (omega arith) ∙ sym (dealt_word s v others i l)
  | inr past ↦ dealt_last s v words i past ∙ ap (difference s.modulus v) (total_eq (s.shares - 1) words others same) ∙ sym (dealt_last s v others i past)
]

pub dealt_sum : (s : Scheme) → IsScheme s → (v : ℕ) (words : ℕ → ℕ) → Same s.modulus (total s.shares (dealt s v words)) v
dealt_sum s h v words =
    let positive : 0 < s.modulus = omega (arith, h.modulus) in
    let m = s.shares - 1 in
    let more : s.shares ≡ suc m = omega (arith, h.shares) in
    let front : total m (dealt s v words) ≡ total m words = total_eq m (dealt s v words) words (λ i l. dealt_word s v words i (omega arith)) in
    let last : dealt s v words m ≡ difference s.modulus v (total m words) = dealt_last s v words m (omega arith) in
    let whole : total s.shares (dealt s v words) ≡ total m (dealt s v words) + dealt s v words m = ap (λ z. total z (dealt s v words)) more in
    same_trans (same_refl s.modulus _ (difference s.modulus v (total m words) + total m words) (omega (arith, whole, front, last))) (same_difference s.modulus v (total m words) positive)

-- ---- one product

none_below : (n : ℕ) (f : ℕ → Bool) → some_below n f ≡ false → (i : ℕ) → i < n → f i ≡ false
none_below zero f h i l = absurd (omega arith)
none_below (suc n) f h i l =
    let parts = or_parts (some_below n f) (f n) h in
    elim (cases_eq i n) [ inl e ↦ subst (λ z. f z ≡ false) (sym e) parts.1 | inr ne ↦ none_below n f parts.0 i (omega arith) ]

total_if : (b : Bool) (m : ℕ) (f : ℕ → ℕ) → total m (λ i. if b then f i else 0) ≡ (if b then total m f else 0)
total_if true m f = refl
total_if false m f = total_zero m (λ i. 0) (λ i l. refl)

own_none : (s : Scheme) → IsScheme s → (p : ℕ) (x y : ℕ → ℕ) → has_pair s p ≡ false → own_product s p x y ≡ 0
own_none s h p x y no' =
    let none : total s.shares (λ i. total s.shares (λ j. if nat_eq (s.duty i j) p then x i * y j else 0)) ≡ 0 =
    total_zero s.shares _ (λ i li. total_zero s.shares _ (λ j lj. cond-false (nat_eq (s.duty i j) p) (x i * y j) 0 (none_below s.shares _ (none_below s.shares _ no' i li) j lj))) in
    let positive : 0 < s.modulus = omega (arith, h.modulus) in
    ap (λ z. z % s.modulus) none ∙ mod-eq_of_lt positive

pub own_products_sum : (s : Scheme) → IsScheme s → (x y : ℕ → ℕ) → Same s.modulus (total s.parties (λ p. own_product s p x y)) (total s.shares x * total s.shares y)
own_products_sum s h x y =
    let n = s.parties in
    let m = s.shares in
    let term : ℕ → ℕ → ℕ → ℕ = λ p i j. if nat_eq (s.duty i j) p then x i * y j else 0 in
    let drop_mod : Same s.modulus (total n (λ p. own_product s p x y)) (total n (λ p. total m (λ i. total m (λ j. term p i j)))) =
    total_same s.modulus n _ _ (λ p l. same_mod s.modulus (total m (λ i. total m (λ j. term p i j)))) in
    let swapped : total n (λ p. total m (λ i. total m (λ j. term p i j))) ≡ total m (λ i. total m (λ j. total n (λ p. term p i j))) =
    total_swap n m (λ p i. total m (λ j. term p i j)) ∙ total_eq m _ _ (λ i li. total_swap n m (λ p j. term p i j)) in
    let picked : total m (λ i. total m (λ j. total n (λ p. term p i j))) ≡ total m (λ i. x i * total m y) =
    total_eq m _ _ (λ i li. total_eq m _ _ (λ j lj. total_pick n (s.duty i j) (x i * y j) (h.duty i j li lj)) ∙ total_mul_left m (x i) y) in
    same_trans drop_mod (same_refl s.modulus _ _ (swapped ∙ picked ∙ total_mul m x (total m y)))

-- each party's summands add up to what it deals
abbrev pub DealsAddUp : Scheme → (ℕ → ℕ → ℕ → ℕ) → Type 0
DealsAddUp s deal = (p v : ℕ) → total s.shares (deal p v) % s.modulus ≡ v % s.modulus

pub product_sum : (s : Scheme) → IsScheme s → (deal : ℕ → ℕ → ℕ → ℕ) → DealsAddUp s deal → (x y : ℕ → ℕ) → Same s.modulus (total s.shares (product_summand s deal x y)) (total s.shares x * total s.shares y)
product_sum s h deal adds x y =
    let n = s.parties in
    let m = s.shares in
    let own : ℕ → ℕ = λ p. own_product s p x y in
    let part : ℕ → ℕ → ℕ = λ p i. if has_pair s p then deal p (own p) i else 0 in
    let drop_mod : Same s.modulus (total m (product_summand s deal x y)) (total m (λ i. total n (λ p. part p i))) =
    total_same s.modulus m _ _ (λ i l. same_mod s.modulus (total n (λ p. part p i))) in
    let swapped : total m (λ i. total n (λ p. part p i)) ≡ total n (λ p. total m (part p)) = total_swap m n (λ i p. part p i) in
    let each : (p : ℕ) → p < n → Same s.modulus (total m (part p)) (own p) =
    λ p l. elim (cases_Bool (has_pair s p)) [
      | inl yes' ↦ same_trans
          (same_refl s.modulus _ _ (total_if (has_pair s p) m (deal p (own p)) ∙ cond-true (has_pair s p) _ 0 yes'))
          (same_of_mods (adds p (own p)))
      | inr no' ↦ same_refl s.modulus _ _ (total_if (has_pair s p) m (deal p (own p)) ∙ cond-false (has_pair s p) _ 0 no' ∙ sym (own_none s h p x y no'))
    ] in
    same_trans drop_mod (same_trans (same_refl s.modulus _ _ swapped) (same_trans (total_same s.modulus n _ _ each) (own_products_sum s h x y)))

-- ---- one linear gate

sum_sum : (q m : ℕ) (x y : ℕ → ℕ) → Same q (total m (λ i. (x i + y i) % q)) ((total m x + total m y) % q)
sum_sum q m x y =
    same_trans (total_same q m _ _ (λ i l. same_mod q (x i + y i)))
    (same_trans (same_refl q _ _ (total_add m x y)) (same_sym (same_mod q (total m x + total m y))))

pub difference_sum : (q m : ℕ) (x y : ℕ → ℕ) → 0 < q → Same q (total m (λ i. difference q (x i) (y i))) (difference q (total m x) (total m y))
difference_sum q m x y h =
    let back : Same q (total m (λ i. difference q (x i) (y i)) + total m y) (total m x) =
    same_trans (same_refl q _ _ (sym (total_add m (λ i. difference q (x i) (y i)) y))) (total_same q m _ _ (λ i l. same_difference q (x i) (y i) h)) in
    same_cancel (total m y) (same_trans back (same_sym (same_difference q (total m x) (total m y) h)))

inv_other : (q c i a b : ℕ) → i ≢ 0 → local q Inv c i a b ≡ a
inv_other q c zero a b ne = absurd (ne refl)
inv_other q c (suc i) a b ne = refl

eq_other : (q c i a b : ℕ) → i ≢ 0 → local q Eq c i a b ≡ 0
eq_other q c zero a b ne = absurd (ne refl)
eq_other q c (suc i) a b ne = refl

pub linear_sum : (q m : ℕ) (op : Operation) (c : ℕ) (x y : ℕ → ℕ) → 0 < q → 0 < m → is_product op ≡ false → Same q (total m (λ i. local q op c i (x i) (y i))) (operate q op c (total m x) (total m y))
linear_sum q m Add c x y h k p = sum_sum q m x y
linear_sum q m Sub c x y h k p = difference_sum q m x y h
linear_sum q m Neg c x y h k p = same_trans (difference_sum q m (λ i. 0) x h) (same_refl q _ _ (ap (λ z. difference q z (total m x)) (total_zero m (λ i. 0) (λ i l. refl))))
linear_sum q m Mul c x y h k p = absurd (both_ways true p refl)
linear_sum q m Xor c x y h k p = sum_sum q m x y
linear_sum q m And c x y h k p = absurd (both_ways true p refl)
linear_sum q m Inv c x y h k p =
    let e : total m (λ i. local q Inv c i (x i) (y i)) + x 0 ≡ total m x + (x 0 + 1) % q = total_one m 0 _ x k (λ i l ne. inv_other q c i (x i) (y i) ne) in
    same_trans (same_cancel (x 0) (same_trans (same_refl q _ _ e) (same_trans (same_add (same_refl q (total m x) _ refl) (same_mod q (x 0 + 1))) (same_refl q _ (total m x + 1 + x 0) (omega arith))))) (same_sym (same_mod q (total m x + 1)))
linear_sum q m Eq c x y h k p =
    let e : total m (λ i. local q Eq c i (x i) (y i)) + 0 ≡ total m (λ i. 0) + c % q = total_one m 0 _ (λ i. 0) k (λ i l ne. eq_other q c i (x i) (y i) ne) in
    let z = total_zero m (λ i. 0) (λ i l. refl) in
    same_refl q _ _ (omega (arith, e, z))
linear_sum q m Eqw c x y h k p = same_refl q _ _ (omega (arith, h, h))

-- ---- every gate, and every wire

product_operation : (q : ℕ) (op : Operation) (c a b : ℕ) → is_product op ≡ true → Same q (a * b) (operate q op c a b)
product_operation q Mul c a b p = same_sym (same_mod q (a * b))
product_operation q And c a b p = same_sym (same_mod q (a * b))
product_operation q op c a b p = absurd (both_ways false refl p)

pub gate_sum : (r : Run) → IsRun r → (t : ℕ) (x y : ℕ → ℕ) → Same r.scheme.modulus (total r.scheme.shares (gate_summands r t x y)) (operate r.scheme.modulus (r.gates t).operation (r.gates t).constant (total r.scheme.shares x) (total r.scheme.shares y))
gate_sum r h t x y =
    let s = r.scheme in
    let g = r.gates t in
    let positive : 0 < s.modulus = omega (arith, h.scheme.modulus) in
    elim (cases_Bool (is_product g.operation)) [
      | inl yes' ↦ same_trans
          (same_refl s.modulus _ _ (total_eq s.shares _ (r.product t x y) (λ i l. cond-true (is_product g.operation) _ _ yes')))
          (same_trans (same_of_mods (h.products t x y)) (product_operation s.modulus g.operation g.constant (total s.shares x) (total s.shares y) yes'))
      | inr no' ↦ same_trans
          (same_refl s.modulus _ _ (total_eq s.shares _ _ (λ i l. cond-false (is_product g.operation) (r.product t x y i) _ no')))
          (linear_sum s.modulus s.shares g.operation g.constant x y positive h.scheme.shares no')
    ]

same_both : (q : ℕ) {a b : ℕ} → Same q a b → Same q (a % q) (b % q)
same_both q {a} {b} h = same_trans (same_mod q a) (same_trans h (same_sym (same_mod q b)))

difference_same : (q : ℕ) {a b a' b' : ℕ} → 0 < q → Same q a a' → Same q b b' → Same q (difference q a b) (difference q a' b')
difference_same q {a} {b} {a'} {b'} h k l =
    same_cancel b' (same_trans (same_add (same_refl q (difference q a b) _ refl) (same_sym l))
    (same_trans (same_difference q a b h) (same_trans k (same_sym (same_difference q a' b' h)))))

-- an operation keeps equal remainders
operate_same : (q : ℕ) (op : Operation) (c a b a' b' : ℕ) → 0 < q → Same q a a' → Same q b b' → Same q (operate q op c a b) (operate q op c a' b')
operate_same q Add c a b a' b' h k l = same_both q (same_add k l)
operate_same q Sub c a b a' b' h k l = difference_same q h k l
operate_same q Neg c a b a' b' h k l = difference_same q h (same_refl q 0 0 refl) k
operate_same q Mul c a b a' b' h k l = same_both q (same_mul k l)
operate_same q Xor c a b a' b' h k l = same_both q (same_add k l)
operate_same q And c a b a' b' h k l = same_both q (same_mul k l)
operate_same q Inv c a b a' b' h k l = same_both q (same_add k (same_refl q 1 1 refl))
operate_same q Eq c a b a' b' h k l = same_refl q _ _ refl
operate_same q Eqw c a b a' b' h k l = k

operate_below : (q : ℕ) (op : Operation) (c a b : ℕ) → 0 < q → a < q → operate q op c a b < q
operate_below q Eqw c a b h l = l
operate_below q Add c a b h l = mod-lt (a + b) h
operate_below q Sub c a b h l = mod-lt (a + (q - b % q)) h
operate_below q Neg c a b h l = mod-lt (0 + (q - a % q)) h
operate_below q Mul c a b h l = mod-lt (a * b) h
operate_below q Xor c a b h l = mod-lt (a + b) h
operate_below q And c a b h l = mod-lt (a * b) h
operate_below q Inv c a b h l = mod-lt (a + 1) h
operate_below q Eq c a b h l = mod-lt c h

pub adds_same : (s : Scheme) (x : ℕ → ℕ → ℕ) (v : ℕ → ℕ) → 0 < s.modulus → AddUp s x v → (w : ℕ) → Same s.modulus (total s.shares (x w)) (v w)
adds_same s x v h a w = same_trans (same_sym (same_mod s.modulus (total s.shares (x w)))) (same_refl s.modulus _ _ (a w))

pub sum_is_plain : (r : Run) → IsRun r → (v : ℕ → ℕ) → SumIsPlain r v
sum_is_plain r h v start zero w = start w
sum_is_plain r h v start (suc t) w =
    let g = r.gates t in
    let q = r.scheme.modulus in
    let positive : 0 < q = omega (arith, h.scheme.modulus) in
    let ih = sum_is_plain r h v start t in
    let each = adds_same r.scheme (summands r t) (values q r.gates v t) positive ih in
    let below : values q r.gates v t g.first < q = subst (λ z. z < q) (ih g.first) (mod-lt (total r.scheme.shares (summands r t g.first)) positive) in
    elim (cases_Bool (nat_eq w g.output)) [
      | inl yes' ↦
          ap (λ z. total r.scheme.shares z % q) (cond-true (nat_eq w g.output) _ (summands r t w) yes')
          ∙ mods_of_same (same_trans (gate_sum r h t (summands r t g.first) (summands r t g.second)) (operate_same q g.operation g.constant _ _ _ _ positive (each g.first) (each g.second)))
          ∙ mod-eq_of_lt (operate_below q g.operation g.constant _ _ positive below)
          ∙ sym (cond-true (nat_eq w g.output) _ (values q r.gates v t w) yes')
      | inr no' ↦
          ap (λ z. total r.scheme.shares z % q) (cond-false (nat_eq w g.output) _ (summands r t w) no')
          ∙ ih w
          ∙ sym (cond-false (nat_eq w g.output) _ (values q r.gates v t w) no')
    ]

local_below : (q : ℕ) (op : Operation) (c i a b : ℕ) → 0 < q → a < q → local q op c i a b < q
local_below q Inv c zero a b h l = mod-lt (a + 1) h
local_below q Inv c (suc i) a b h l = l
local_below q Eq c zero a b h l = mod-lt c h
local_below q Eq c (suc i) a b h l = h
local_below q op c i a b h l = operate_below q op c a b h l

-- each summand is a number of the ring
pub summands_below : (r : Run) → 0 < r.scheme.modulus → ((v i : ℕ) → r.start v i < r.scheme.modulus) → ((t : ℕ) (x y : ℕ → ℕ) (i : ℕ) → r.product t x y i < r.scheme.modulus) → (t v i : ℕ) → summands r t v i < r.scheme.modulus
summands_below r h start products zero v i = start v i
summands_below r h start products (suc t) v i =
    let q = r.scheme.modulus in
    let g = r.gates t in
    let ih = summands_below r h start products t in
    cond_both (nat_eq v g.output) (gate_summands r t (summands r t g.first) (summands r t g.second)) (summands r t v) (λ f. f i < q)
    (λ e. cond_both (is_product g.operation) _ _ (λ z. z < q) (λ e. products t _ _ i) (λ e. local_below q g.operation g.constant i _ _ h (ih g.first i)))
    (λ e. ih v i)
