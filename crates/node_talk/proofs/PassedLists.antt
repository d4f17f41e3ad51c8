-- The elements of a list that pass a test.
use Rattle.std.proofs.Common.{◌≡◌, ℕ, zero, suc, ◌<◌, Bool, true, false, List, [], ◌∷◌, ◌++◌, length, take, refl, sym, ap, ◌∙◌, subst, arith}
use Rattle.std.specs.Prelude.{filter, slice_index_or}
use Rattle.std.specs.List.{AllByRecursion}
use Rattle.std.proofs.lemmas.Bool.{cases_Bool, cond-true, cond-false, both_ways}
use Rattle.std.proofs.lemmas.List.Elements.{filter-append}
use mathlib.Core.Logic.{inl, inr}
use Rattle.list_laws.specs.Lists.{joined}

pub filter_joined : {A : Type 0} (test : A → Bool) (n : ℕ) (f : ℕ → List A) → filter test (joined n f) ≡ joined n (λ k. filter test (f k))
filter_joined test zero f = refl
filter_joined test (suc n) f = filter-append test (joined n f) (f n) ∙ ap (λ z. z ++ filter test (f n)) (filter_joined test n f)

-- what holds of those that pass holds of each that passes
pub every_unfilter : {A : Type 0} (test : A → Bool) (P : A → Type 0) (xs : List A) → AllByRecursion P (filter test xs) → AllByRecursion (λ x. test x ≡ true → P x) xs
every_unfilter test P [] h = tt
every_unfilter test P (x ∷ xs) h = elim (cases_Bool (test x)) [
  | inl e ↦ let g : AllByRecursion P (x ∷ filter test xs) = subst (AllByRecursion P) (cond-true (test x) (x ∷ filter test xs) (filter test xs) e) h in (λ e'. g.0, every_unfilter test P xs g.1)
  | inr e ↦ (λ e'. absurd (both_ways (test x) e e'), every_unfilter test P xs (subst (AllByRecursion P) (cond-false (test x) (x ∷ filter test xs) (filter test xs) e) h))
]

pub every_filtered : {A : Type 0} (test : A → Bool) (P : A → Type 0) (xs : List A) → AllByRecursion (λ x. test x ≡ true → P x) xs → AllByRecursion P (filter test xs)
every_filtered test P [] h = tt
every_filtered test P (x ∷ xs) h = elim (cases_Bool (test x)) [
  | inl e ↦ subst (AllByRecursion P) (sym (cond-true (test x) (x ∷ filter test xs) (filter test xs) e)) (h.0 e, every_filtered test P xs h.1)
  | inr e ↦ subst (AllByRecursion P) (sym (cond-false (test x) (x ∷ filter test xs) (filter test xs) e)) (every_filtered test P xs h.1)
]

pub every_from_places : {A : Type 0} (P : A → Type 0) (xs : List A) (d : A) → ((j : ℕ) → j < length xs → P (slice_index_or xs j d)) → AllByRecursion P xs
every_from_places P [] d h = tt
every_from_places P (x ∷ xs) d h = (h 0 (omega arith), every_from_places P xs d (λ j l. h (suc j) (omega arith)))

pub every_taken : {A : Type 0} (P : A → Type 0) (f : ℕ) (xs : List A) → AllByRecursion P xs → AllByRecursion P (take f xs)
every_taken P zero xs h = tt
every_taken P (suc f) [] h = tt
every_taken P (suc f) (x ∷ xs) h = (h.0, every_taken P f xs h.1)

pub every_first : {A : Type 0} (P : A → Type 0) (xs : List A) (f : ℕ) (d : A) → ((j : ℕ) → j < f → j < length xs → P (slice_index_or xs j d)) → AllByRecursion P (take f xs)
every_first P xs zero d h = tt
every_first P [] (suc f) d h = tt
every_first P (x ∷ xs) (suc f) d h = (h 0 (omega arith) (omega arith), every_first P xs f d (λ j lf lj. h (suc j) (omega arith) (omega arith)))

pub take_place : {A : Type 0} (xs : List A) (f j : ℕ) (d : A) → j < f → slice_index_or (take f xs) j d ≡ slice_index_or xs j d
take_place xs zero j d l = absurd (omega arith)
take_place [] (suc f) j d l = refl
take_place (x ∷ xs) (suc f) zero d l = refl
take_place (x ∷ xs) (suc f) (suc j) d l = take_place xs f j d (omega arith)

-- ---- places

-- how many elements before place k pass
abbrev pub passed_before : {A : Type 0} → (A → Bool) → List A → ℕ → ℕ
passed_before test xs k = length (filter test (take k xs))

module _ {A : Type 0} (test : A → Bool) (d : A) where
  passes_cons : (x : A) (xs : List A) → test x ≡ true → filter test (x ∷ xs) ≡ x ∷ filter test xs
  passes_cons x xs e = cond-true (test x) (x ∷ filter test xs) (filter test xs) e

  fails_cons : (x : A) (xs : List A) → test x ≡ false → filter test (x ∷ xs) ≡ filter test xs
  fails_cons x xs e = cond-false (test x) (x ∷ filter test xs) (filter test xs) e

  -- an element that passes stands among those that pass, after those that pass before it
  pub passes_at : (xs : List A) (k : ℕ) → k < length xs → test (slice_index_or xs k d) ≡ true → (passed_before test xs k < length (filter test xs)) × (slice_index_or (filter test xs) (passed_before test xs k) d ≡ slice_index_or xs k d)
  passes_at [] k l e = absurd (omega arith)
  passes_at (x ∷ xs) zero l e =
      let s = passes_cons x xs e in
      ((let n = ap length s in omega arith), ap (λ z. slice_index_or z 0 d) s)
  passes_at (x ∷ xs) (suc k) l e =
      let r = passes_at xs k (omega arith) e in
      elim (cases_Bool (test x)) [
        | inl yes' ↦
            let a = passes_cons x xs yes' in
            let b = passes_cons x (take k xs) yes' in
            let more : passed_before test (x ∷ xs) (suc k) ≡ suc (passed_before test xs k) = ap length b in (
              (let n = ap length a in let m = r.0 in omega arith),
              ap (λ z. slice_index_or z (passed_before test (x ∷ xs) (suc k)) d) a ∙ ap (λ z. slice_index_or (x ∷ filter test xs) z d) more ∙ r.1,
            )
        | inr no' ↦
            let a = fails_cons x xs no' in
            let b = fails_cons x (take k xs) no' in
            let more : passed_before test (x ∷ xs) (suc k) ≡ passed_before test xs k = ap length b in (
              (let n = ap length a in let m = r.0 in omega arith),
              ap (λ z. slice_index_or z (passed_before test (x ∷ xs) (suc k)) d) a ∙ ap (λ z. slice_index_or (filter test xs) z d) more ∙ r.1,
            )
      ]

  -- each of those that pass stands somewhere in the list
  pub record StandsAt (xs : List A) (j : ℕ) : Type 0 where
    pub place : ℕ
    pub within : place < length xs
    pub same : slice_index_or xs place d ≡ slice_index_or (filter test xs) j d
    pub passes : test (slice_index_or xs place d) ≡ true
    pub before : passed_before test xs place ≡ j

  pub stands_at : (xs : List A) (j : ℕ) → j < length (filter test xs) → StandsAt xs j
  stands_at [] j l = absurd (omega arith)
  stands_at (x ∷ xs) j l = elim (cases_Bool (test x)) [
    | inl yes' ↦ passing (λ i li. stands_at xs i li) yes' j l
    | inr no' ↦
        let a = fails_cons x xs no' in
        let r = stands_at xs j (let n = ap length a in omega arith) in
        record {
          place = suc r.place;
          within = (let w = r.within in omega arith);
          same = r.same ∙ sym (ap (λ z. slice_index_or z j d) a);
          passes = r.passes;
          before = ap length (fails_cons x (take r.place xs) no') ∙ r.before;
        }
  ]
    where
      passing : ((i : ℕ) → i < length (filter test xs) → StandsAt xs i) → test x ≡ true → (j : ℕ) → j < length (filter test (x ∷ xs)) → StandsAt (x ∷ xs) j
      passing again yes' zero l = record { place = 0; within = omega arith; same = sym (ap (λ z. slice_index_or z 0 d) (passes_cons x xs yes')); passes = yes'; before = refl }
      passing again yes' (suc j) l =
          let a = passes_cons x xs yes' in
          let r = again j (let n = ap length a in omega arith) in
          record {
            place = suc r.place;
            within = (let w = r.within in omega arith);
            same = r.same ∙ sym (ap (λ z. slice_index_or z (suc j) d) a);
            passes = r.passes;
            before = ap length (passes_cons x (take r.place xs) yes') ∙ ap suc r.before;
          }
