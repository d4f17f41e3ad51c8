-- Lists that are joined end to end: what stands in them, and how they grow.
use Rattle.std.proofs.Common.{◌≡◌, ℕ, zero, suc, ◌+◌, ◌<◌, inl, inr, Bool, true, false, not, ◌||◌, nat_eq, List, [], ◌∷◌, ◌++◌, length, refl, sym, ◌∙◌, ap, arith, ne_eqb}
use Rattle.std.specs.Prelude.{count_by, slice_index_or}
use Rattle.std.proofs.lemmas.Bool.{cases_lt}
use Rattle.std.proofs.lemmas.List.{get_or_append_left, get_or_push}
use Rattle.std.proofs.lemmas.List.Sums.{sum_by-append}
use Rattle.list_laws.specs.Lists.{total, some_below, joined, only_if}

-- something stands in the list
abbrev pub is_filled : {A : Type 0} → List A → Bool
is_filled xs = not (nat_eq (length xs) 0)

filled_append : {A : Type 0} (xs ys : List A) → is_filled (xs ++ ys) ≡ (is_filled xs || is_filled ys)
filled_append [] ys = refl
filled_append (x ∷ xs) ys = ap not (ne_eqb (length (x ∷ xs ++ ys)) 0 (omega arith)) ∙ sym (ap (λ b. not b || is_filled ys) (ne_eqb (length (x ∷ xs)) 0 (omega arith)))

pub filled_joined : {A : Type 0} (n : ℕ) (f : ℕ → List A) → is_filled (joined n f) ≡ some_below n (λ i. is_filled (f i))
filled_joined zero f = refl
filled_joined (suc n) f = filled_append (joined n f) (f n) ∙ ap (λ b. b || is_filled (f n)) (filled_joined n f)

pub filled_only_if : {A : Type 0} (b : Bool) (x : A) → is_filled (only_if b (x ∷ [])) ≡ b
filled_only_if true x = refl
filled_only_if false x = refl

pub some_below_eq : (n : ℕ) (f g : ℕ → Bool) → ((i : ℕ) → f i ≡ g i) → some_below n f ≡ some_below n g
some_below_eq zero f g h = refl
some_below_eq (suc n) f g h = ap (λ b. b || f n) (some_below_eq n f g h) ∙ ap (λ b. some_below n g || b) (h n)

-- how many of a joined list pass
pub count_joined : {A : Type 0} (p : A → Bool) (n : ℕ) (f : ℕ → List A) → count_by p (joined n f) ≡ total n (λ i. count_by p (f i))
count_joined p zero f = refl
count_joined p (suc n) f = sum_by-append _ (joined n f) (f n) ∙ ap (λ k. k + count_by p (f n)) (count_joined p n f)

-- a table that grows by the entry of its next place
pub table_more : {A : Type 0} (d : A) (f : ℕ → A) (xs : List A) (i : ℕ) (y : A) → length xs ≡ i → ((k : ℕ) → k < i → slice_index_or xs k d ≡ f k) → y ≡ f i
    → (k : ℕ) → k < i + 1 → slice_index_or (xs ++ y ∷ []) k d ≡ f k
table_more d f xs i y count before here k l =
    elim (cases_lt k i) [
      | inl below ↦ get_or_append_left xs (y ∷ []) d k (omega arith) ∙ before k below
      | inr past ↦ (let same : i ≡ k = omega arith in get_or_push xs y d k (count ∙ same) ∙ here ∙ ap f same)
    ]
