-- All lists that take one item of each of some lists: which they are, and that each comes once.
use Rattle.std.proofs.Common.{◌≡◌, ℕ, zero, suc, ◌*◌, ◌^◌, ◌<◌, List, [], ◌∷◌, ◌++◌, length, refl, sym, ap, ap₂, ◌∙◌, subst, arith}
use Rattle.std.specs.Prelude.{slice_index_or, map}
use Rattle.std.specs.List.{AllByRecursion, AllZip, Contains, flat_map}
use Rattle.std.proofs.lemmas.List.{length-append, length-map}
use Rattle.std.proofs.lemmas.Nat.{pow-add}
use Rattle.std.proofs.Math.Nat.{pow-zero}
use mathlib.Core.Logic.{inl, inr}
use Rattle.list_laws.specs.Lists.{total, listed}
use Rattle.view_counts.specs.Counts.{picks}
use Rattle.view_counts.proofs.DistinctLists.{Distinct, contains_here, contains_none, contains_cases, contains_map, map_contains, contains_flat, flat_contains, distinct_one, distinct_append, distinct_map}

-- ---- two lists, place by place

pub zip_length : {A B : Type 0} (R : A → B → Type 0) (xs : List A) (ys : List B) → AllZip R xs ys → length ys ≡ length xs
zip_length R [] [] h = refl
zip_length R [] (y ∷ ys) h = absurd h
zip_length R (x ∷ xs) [] h = absurd h
zip_length R (x ∷ xs) (y ∷ ys) h = ap suc (zip_length R xs ys h.1)

pub zip_at : {A B : Type 0} (R : A → B → Type 0) (xs : List A) (ys : List B) (i : ℕ) (d : A) (e : B) → i < length xs → AllZip R xs ys
    → R (slice_index_or xs i d) (slice_index_or ys i e)
zip_at R [] ys i d e l h = absurd (omega arith)
zip_at R (x ∷ xs) [] i d e l h = absurd h
zip_at R (x ∷ xs) (y ∷ ys) zero d e l h = h.0
zip_at R (x ∷ xs) (y ∷ ys) (suc i) d e l h = zip_at R xs ys i d e (omega arith) h.1

pub zip_from : {A B : Type 0} (R : A → B → Type 0) (xs : List A) (ys : List B) (d : A) (e : B) → length ys ≡ length xs
    → ((i : ℕ) → i < length xs → R (slice_index_or xs i d) (slice_index_or ys i e)) → AllZip R xs ys
zip_from R [] [] d e l h = tt
zip_from R [] (y ∷ ys) d e l h = absurd (omega arith)
zip_from R (x ∷ xs) [] d e l h = absurd (omega arith)
zip_from R (x ∷ xs) (y ∷ ys) d e l h = (h 0 (omega arith), zip_from R xs ys d e (omega arith) (λ i li. h (suc i) (omega arith)))

-- ---- picks

pub contains_picks : {A : Type 0} (xss : List (List A)) (t : List A) → AllZip Contains xss t → Contains (picks xss) t
contains_picks [] [] h = contains_here [] []
contains_picks [] (y ∷ ys) h = absurd h
contains_picks (xs ∷ rest) [] h = absurd h
contains_picks {A} (xs ∷ rest) (y ∷ ys) h =
    contains_flat (λ (x : A). map (λ (ys : List A). x ∷ ys) (picks rest)) xs y (y ∷ ys) h.0
    (contains_map (λ (ys : List A). y ∷ ys) (picks rest) ys (contains_picks rest ys h.1))

pub picks_contain : {A : Type 0} (xss : List (List A)) (t : List A) → Contains (picks xss) t → AllZip Contains xss t
picks_contain [] t h = elim (contains_cases [] [] t h) [
  | inl e ↦ subst (AllZip Contains []) e tt
  | inr rest ↦ absurd (contains_none t rest)
]
picks_contain {A} (xs ∷ rest) t h =
    let first = flat_contains (λ (x : A). map (λ (ys : List A). x ∷ ys) (picks rest)) xs t h in
    let second = map_contains (λ (ys : List A). first.0 ∷ ys) (picks rest) t first.2 in
    subst (AllZip Contains (xs ∷ rest)) second.2 (first.1, picks_contain rest second.0 second.1)

distinct_flat : {A : Type 0} (ps : List (List A)) (xs : List A) → Distinct ps → Distinct xs → Distinct (flat_map (λ x. map (λ ys. x ∷ ys) ps) xs)
distinct_flat ps [] h k = tt
distinct_flat {A} ps (x ∷ xs) h k =
    let f : A → List (List A) = λ x. map (λ ys. x ∷ ys) ps in
    distinct_append (f x) (flat_map f xs) (distinct_map (λ (ys : List A). x ∷ ys) ps h (λ a b la lb e. cc)) (distinct_flat ps xs h k.1) (λ z left right.
    let one = map_contains (λ (ys : List A). x ∷ ys) ps z left in
    let first = flat_contains f xs z right in
    let two = map_contains (λ (ys : List A). first.0 ∷ ys) ps z first.2 in
    let same : x ∷ one.0 ≡ first.0 ∷ two.0 = one.2 ∙ sym two.2 in
    let heads : first.0 ≡ x = cc in
    k.0 (subst (Contains xs) heads first.1))

pub distinct_picks : {A : Type 0} (xss : List (List A)) → AllByRecursion Distinct xss → Distinct (picks xss)
distinct_picks [] h = distinct_one []
distinct_picks (xs ∷ rest) h = distinct_flat (picks rest) xs (distinct_picks rest h.1) h.0

-- ---- how many there are

-- each item of the first list stands before each pick of the rest
flat_long : {A : Type 0} (ps : List (List A)) (xs : List A) → length (flat_map (λ x. map (λ ys. x ∷ ys) ps) xs) ≡ length xs * length ps
flat_long ps [] = omega arith
flat_long {A} ps (x ∷ xs) =
    let f : A → List (List A) = λ x. map (λ ys. x ∷ ys) ps in
    let here : length (f x) ≡ length ps = length-map ps (λ (ys : List A). x ∷ ys) in
    length-append (f x) (flat_map f xs) ∙ omega (arith, here, flat_long ps xs)

pub picks_long : {A : Type 0} (xs : List A) (rest : List (List A)) → length (picks (xs ∷ rest)) ≡ length xs * length (picks rest)
picks_long xs rest = flat_long (picks rest) xs

picks_append : {A : Type 0} (xss : List (List A)) (ys : List A) → length (picks (xss ++ ys ∷ [])) ≡ length (picks xss) * length ys
picks_append [] ys = picks_long ys [] ∙ omega arith
picks_append (xs ∷ rest) ys =
    let more = picks_append rest ys in
    picks_long xs (rest ++ ys ∷ [])
    ∙ ap (λ z. length xs * z) more
    ∙ omega arith
    ∙ ap (λ z. z * length ys) (sym (picks_long xs rest))

-- of n lists, where list i has q to the power e i items
pub powers_long : {A : Type 0} (q : ℕ) (e : ℕ → ℕ) (f : ℕ → List A) → ((i : ℕ) → length (f i) ≡ q ^ e i) → (n : ℕ)
    → length (picks (listed n f)) ≡ q ^ total n e
powers_long q e f each zero = sym (pow-zero q)
powers_long q e f each (suc n) =
    picks_append (listed n f) (f n) ∙ ap₂ (λ a b. a * b) (powers_long q e f each n) (each n) ∙ sym (pow-add q (total n e) (e n))
