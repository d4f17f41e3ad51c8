-- Filters of the numbers below a bound.
use Rattle.std.proofs.Common.{◌≡◌, ℕ, zero, suc, ◌+◌, ◌≤◌, ◌<◌, inl, inr, Bool, true, false, [], ◌∷◌, ◌++◌, length, refl, sym, ◌∙◌, ap, arith, cond, append-nil, length-append}
use Rattle.std.specs.Prelude.{filter, slice_index}
use Rattle.std.specs.List.{range_with_len}
use Rattle.std.proofs.lemmas.Bool.Decides.{eqb_tells}
use Rattle.std.proofs.lemmas.List.Elements.{filter-append}

range_more : (a n : ℕ) → range_with_len a (suc n) ≡ range_with_len a n ++ ((a + n) ∷ [])
range_more a zero = let z : a ≡ a + 0 = omega arith in ap (λ m. m ∷ []) z
range_more a (suc n) = ap (λ xs. a ∷ xs) (range_more (a + 1) n ∙ ap (λ m. range_with_len (a + 1) n ++ (m ∷ [])) (let e : (a + 1) + n ≡ a + suc n = omega arith in e))

pub filter_suc : (p : ℕ → Bool) (n : ℕ) → filter p (range_with_len 0 (suc n)) ≡ filter p (range_with_len 0 n) ++ filter p (n ∷ [])
filter_suc p n =
    let z : 0 + n ≡ n = omega arith in
    ap (filter p) (range_more 0 n ∙ ap (λ m. range_with_len 0 n ++ (m ∷ [])) z) ∙ filter-append p (range_with_len 0 n) (n ∷ [])

filter_more : (p : ℕ → Bool) (n : ℕ) → filter p (range_with_len 0 (n + 1)) ≡ filter p (range_with_len 0 n) ++ filter p (n ∷ [])
filter_more p n = let e : n + 1 ≡ suc n = omega arith in ap (λ m. filter p (range_with_len 0 m)) e ∙ filter_suc p n

pub filter_yes : (p : ℕ → Bool) (n : ℕ) → p n ≡ true → filter p (range_with_len 0 (n + 1)) ≡ filter p (range_with_len 0 n) ++ (n ∷ [])
filter_yes p n e = filter_more p n ∙ ap (λ b. filter p (range_with_len 0 n) ++ cond b (n ∷ []) []) e

pub filter_no : (p : ℕ → Bool) (n : ℕ) → p n ≡ false → filter p (range_with_len 0 (n + 1)) ≡ filter p (range_with_len 0 n)
filter_no p n e = filter_more p n ∙ ap (λ b. filter p (range_with_len 0 n) ++ cond b (n ∷ []) []) e ∙ append-nil (filter p (range_with_len 0 n))

same_length : (p : ℕ → Bool) (a b : ℕ) → a ≡ b → length (filter p (range_with_len 0 a)) ≡ length (filter p (range_with_len 0 b))
same_length p a b e = ap (λ n. length (filter p (range_with_len 0 n))) e

pub filter_grows : (p : ℕ → Bool) (a b : ℕ) → a ≤ b → length (filter p (range_with_len 0 a)) ≤ length (filter p (range_with_len 0 b))
filter_grows p a zero l = omega (arith, same_length p a zero (omega arith))
filter_grows p a (suc b) l =
    elim (eqb_tells a (suc b)) [
      | inl same ↦ omega (arith, same_length p a (suc b) same.1)
      | inr other ↦ omega (arith, filter_grows p a b (omega (arith, other.1)), ap length (filter_suc p b), length-append (filter p (range_with_len 0 b)) (filter p (b ∷ [])))
    ]

-- an element of the filtered numbers
pub record Listed (p : ℕ → Bool) (a n m : ℕ) : Type 0 where
  pub passes : p m ≡ true
  pub from : a ≤ m
  pub below : m < a + n

wider : (p : ℕ → Bool) (a n m : ℕ) → Listed p (a + 1) n m → Listed p a (suc n) m
wider p a n m h = record { passes = h.passes; from = omega (arith, h.from); below = omega (arith, h.below) }

listed_at : (p : ℕ → Bool) (a n : ℕ) (b : Bool) (i : ℕ) → p a ≡ b → ((j : ℕ) → j < length (filter p (range_with_len (a + 1) n)) → Listed p (a + 1) n (slice_index (filter p (range_with_len (a + 1) n)) j))
    → i < length (cond b (a ∷ filter p (range_with_len (a + 1) n)) (filter p (range_with_len (a + 1) n)))
    → Listed p a (suc n) (slice_index (cond b (a ∷ filter p (range_with_len (a + 1) n)) (filter p (range_with_len (a + 1) n))) i)
listed_at p a n true zero e h l = record { passes = e; from = omega arith; below = omega arith }
listed_at p a n true (suc i) e h l = wider p a n _ (h i (omega arith))
listed_at p a n false i e h l = wider p a n _ (h i l)

pub listed : (p : ℕ → Bool) (a n i : ℕ) → i < length (filter p (range_with_len a n)) → Listed p a n (slice_index (filter p (range_with_len a n)) i)
listed p a zero i l = absurd (omega arith)
listed p a (suc n) i l = listed_at p a n (p a) i refl (λ j lj. listed p (a + 1) n j lj) l

rising_at : (p : ℕ → Bool) (a n : ℕ) (b : Bool) (i j : ℕ) → ((k m : ℕ) → k < m → m < length (filter p (range_with_len (a + 1) n)) → slice_index (filter p (range_with_len (a + 1) n)) k < slice_index (filter p (range_with_len (a + 1) n)) m)
    → i < j → j < length (cond b (a ∷ filter p (range_with_len (a + 1) n)) (filter p (range_with_len (a + 1) n)))
    → slice_index (cond b (a ∷ filter p (range_with_len (a + 1) n)) (filter p (range_with_len (a + 1) n))) i < slice_index (cond b (a ∷ filter p (range_with_len (a + 1) n)) (filter p (range_with_len (a + 1) n))) j
rising_at p a n true i zero h l k = absurd (omega arith)
rising_at p a n true zero (suc j) h l k = omega (arith, (listed p (a + 1) n j (omega arith)).from)
rising_at p a n true (suc i) (suc j) h l k = h i j (omega arith) (omega arith)
rising_at p a n false i j h l k = h i j l k

pub rising : (p : ℕ → Bool) (a n i j : ℕ) → i < j → j < length (filter p (range_with_len a n)) → slice_index (filter p (range_with_len a n)) i < slice_index (filter p (range_with_len a n)) j
rising p a zero i j l k = absurd (omega arith)
rising p a (suc n) i j l k = rising_at p a n (p a) i j (λ x y lx ly. rising p (a + 1) n x y lx ly) l k

place_at : (p : ℕ → Bool) (a n m : ℕ) (b : Bool) → p a ≡ b → p m ≡ true → a ≤ m
    → (a + 1 ≤ m → (i : ℕ) × (i < length (filter p (range_with_len (a + 1) n))) × (slice_index (filter p (range_with_len (a + 1) n)) i ≡ m))
    → (i : ℕ) × (i < length (cond b (a ∷ filter p (range_with_len (a + 1) n)) (filter p (range_with_len (a + 1) n)))) × (slice_index (cond b (a ∷ filter p (range_with_len (a + 1) n)) (filter p (range_with_len (a + 1) n))) i ≡ m)
place_at p a n m true e f l h =
    elim (eqb_tells a m) [
      | inl same ↦ (0, omega arith, same.1)
      | inr other ↦ (let at : (i : ℕ) × (i < length (filter p (range_with_len (a + 1) n))) × (slice_index (filter p (range_with_len (a + 1) n)) i ≡ m) = h (omega (arith, other.1)) in (suc at.0, omega (arith, at.1), at.2))
    ]
place_at p a n m false e f l h =
    elim (eqb_tells a m) [
      | inl same ↦ (let bad : true ≡ false = sym f ∙ sym (ap p same.1) ∙ e in absurd cc)
      | inr other ↦ h (omega (arith, other.1))
    ]

-- a number that passes is listed
pub place : (p : ℕ → Bool) (a n m : ℕ) → p m ≡ true → a ≤ m → m < a + n → (i : ℕ) × (i < length (filter p (range_with_len a n))) × (slice_index (filter p (range_with_len a n)) i ≡ m)
place p a zero m e l k = absurd (omega arith)
place p a (suc n) m e l k = place_at p a n m (p a) refl e l (λ more. place p (a + 1) n m e more (omega arith))

-- m is the greatest number below n that passes
pub record IsGreatest (n : ℕ) (t : ℕ → Bool) (m : ℕ) : Type 0 where
  pub below : m < n
  pub passes : t m ≡ true
  pub above : (k : ℕ) → m < k → k < n → t k ≡ false

greatest_at : (n : ℕ) (t : ℕ → Bool) (g : ℕ) (b : Bool) → t n ≡ b → g < suc n → t g ≡ true → (g < n → (m : ℕ) × IsGreatest n t m) → (m : ℕ) × IsGreatest (suc n) t m
greatest_at n t g true f l e h = (n, record { below = omega arith; passes = f; above = λ k lk hk. absurd (omega arith) })
greatest_at n t g false f l e h =
    elim (eqb_tells g n) [
      | inl same ↦ (let bad : true ≡ false = sym e ∙ ap t same.1 ∙ f in absurd cc)
      | inr other ↦ (let found : (m : ℕ) × IsGreatest n t m = h (omega (arith, other.1)) in (
        found.0,
        record {
          below = omega (arith, found.1.below);
          passes = found.1.passes;
          above = λ k lk hk. elim (eqb_tells k n) [ inl same ↦ ap t same.1 ∙ f | inr differs ↦ found.1.above k lk (omega (arith, differs.1)) ];
        },
      ))
    ]

pub greatest : (n : ℕ) (t : ℕ → Bool) (g : ℕ) → g < n → t g ≡ true → (m : ℕ) × IsGreatest n t m
greatest zero t g l e = absurd (omega arith)
greatest (suc n) t g l e = greatest_at n t g (t n) refl l e (λ more. greatest n t g more e)
