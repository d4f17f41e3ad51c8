-- Sums over the numbers below n.
use Rattle.std.proofs.Common.{◌≡◌, ℕ, zero, suc, ◌+◌, ◌*◌, ◌<◌, ◌≤◌, ◌≢◌, nat_eq, Bool, true, false, if◌then◌else◌, List, length, take, refl, sym, ap, ◌∙◌, subst, arith}
use Rattle.std.specs.Prelude.{slice_index, slice_index_or, sum, count_by}
use Rattle.std.proofs.Math.Seq.{take-length}
use Rattle.std.proofs.lemmas.List.Sums.{sum_by_more, count_by_more_yes, count_by_more_no}
use Rattle.std.proofs.lemmas.Bool.{cases_Bool, cases_eq, cond-true, cond-false, eq-eqb, ne_eqb}
use mathlib.Core.Logic.{inl, inr}
use Rattle.list_laws.specs.Lists.{total}

pub total_add : (n : ℕ) (f g : ℕ → ℕ) → total n (λ i. f i + g i) ≡ total n f + total n g
total_add zero f g = refl
total_add (suc n) f g = omega (arith, total_add n f g)

pub total_mul : (n : ℕ) (f : ℕ → ℕ) (c : ℕ) → total n (λ i. f i * c) ≡ total n f * c
total_mul zero f c = omega arith
total_mul (suc n) f c = omega (arith, total_mul n f c)

pub total_mul_left : (n : ℕ) (c : ℕ) (f : ℕ → ℕ) → total n (λ i. c * f i) ≡ c * total n f
total_mul_left zero c f = omega arith
total_mul_left (suc n) c f = omega (arith, total_mul_left n c f)

pub total_eq : (n : ℕ) (f g : ℕ → ℕ) → ((i : ℕ) → i < n → f i ≡ g i) → total n f ≡ total n g
total_eq zero f g h = refl
total_eq (suc n) f g h =
    let e = total_eq n f g (λ i l. h i (omega arith)) in
    let k = h n (omega arith) in
    omega (arith, e, k)

pub total_zero : (n : ℕ) (f : ℕ → ℕ) → ((i : ℕ) → i < n → f i ≡ 0) → total n f ≡ 0
total_zero zero f h = refl
total_zero (suc n) f h =
    let e = total_zero n f (λ i l. h i (omega arith)) in
    let k = h n (omega arith) in
    omega (arith, e, k)

pub total_swap : (n m : ℕ) (f : ℕ → ℕ → ℕ) → total n (λ i. total m (λ j. f i j)) ≡ total m (λ j. total n (λ i. f i j))
total_swap zero m f = sym (total_zero m (λ j. 0) (λ j l. refl))
total_swap (suc n) m f = ap (λ z. z + total m (λ j. f n j)) (total_swap n m f) ∙ sym (total_add m (λ j. total n (λ i. f i j)) (λ j. f n j))

-- a sum changes by what one term changes
pub total_one : (n k : ℕ) (f g : ℕ → ℕ) → k < n → ((i : ℕ) → i < n → i ≢ k → f i ≡ g i) → total n f + g k ≡ total n g + f k
total_one zero k f g l h = omega arith
total_one (suc n) k f g l h = elim (cases_eq k n) [
  | inl e ↦ let same = total_eq n f g (λ i b. h i (omega arith) (omega arith)) in
      subst (λ z. total n f + f n + g z ≡ total n g + g n + f z) (sym e) (omega (arith, same))
  | inr ne ↦ let rest = total_one n k f g (omega arith) (λ i b. h i (omega arith)) in
      let last = h n (omega arith) (λ z. ne (sym z)) in
      omega (arith, rest, last)
]

-- one term alone
pub total_pick : (n d a : ℕ) → d < n → total n (λ p. if nat_eq d p then a else 0) ≡ a
total_pick zero d a l = omega arith
total_pick (suc n) d a l = elim (cases_eq d n) [
  | inl e ↦ let none = total_zero n (λ p. if nat_eq d p then a else 0) (λ i b. cond-false (nat_eq d i) a 0 (ne_eqb d i (omega arith))) in
      let here = cond-true (nat_eq d n) a 0 (eq-eqb d n e) in
      omega (arith, none, here)
  | inr ne ↦ let rest = total_pick n d a (omega arith) in
      let here = cond-false (nat_eq d n) a 0 (ne_eqb d n ne) in
      omega (arith, rest, here)
]

pub total_more : (n : ℕ) (f : ℕ → ℕ) → total (n + 1) f ≡ total n f + f n
total_more n f = let more : n + 1 ≡ suc n = omega arith in ap (λ z. total z f) more

-- a count is no more than what it is of
one_most : (b : Bool) → (if b then 1 else 0) ≤ 1
one_most true = omega arith
one_most false = omega arith

pub total_most : (n : ℕ) (p : ℕ → Bool) → total n (λ w. if p w then 1 else 0) ≤ n
total_most zero p = omega arith
total_most (suc n) p = omega (arith, total_most n p, one_most (p n))

-- the items of a list
items_front : (xs : List ℕ) (n : ℕ) → n ≤ length xs → total n (slice_index xs) ≡ sum (take n xs)
items_front xs zero l = refl
items_front xs (suc n) l =
    let more : n + 1 ≡ suc n = omega arith in
    omega (arith, items_front xs n (omega arith), sum_by_more (λ x. x) xs n 0 (omega arith), ap (λ z. sum (take z xs)) more)

pub total_items : (xs : List ℕ) → total (length xs) (slice_index xs) ≡ sum xs
total_items xs = items_front xs (length xs) (omega arith) ∙ ap sum (take-length xs)

-- how many items pass
count_front : {A : Type 0} (p : A → Bool) (xs : List A) (d : A) (n : ℕ) → n ≤ length xs → total n (λ i. if p (slice_index_or xs i d) then 1 else 0) ≡ count_by p (take n xs)
count_front p xs d zero l = refl
count_front p xs d (suc n) l =
    let more : n + 1 ≡ suc n = omega arith in
    let before = count_front p xs d n (omega arith) in
    elim (cases_Bool (p (slice_index_or xs n d))) [
      | inl e ↦
          let here : ◌≡◌ {A = ℕ} (if p (slice_index_or xs n d) then 1 else 0) 1 = cond-true _ 1 0 e in
          let step = count_by_more_yes p xs n d (omega arith) e in
          omega (arith, before, here, step, ap (λ z. count_by p (take z xs)) more)
      | inr e ↦
          let here : ◌≡◌ {A = ℕ} (if p (slice_index_or xs n d) then 1 else 0) 0 = cond-false _ 1 0 e in
          let step = count_by_more_no p xs n d (omega arith) e in
          omega (arith, before, here, step, ap (λ z. count_by p (take z xs)) more)
    ]

pub total_count : {A : Type 0} (p : A → Bool) (xs : List A) (d : A) → total (length xs) (λ i. if p (slice_index_or xs i d) then 1 else 0) ≡ count_by p xs
total_count p xs d = count_front p xs d (length xs) (omega arith) ∙ ap (count_by p) (take-length xs)
