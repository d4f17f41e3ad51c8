-- Walking along the tokens of a line.
use Rattle.std.proofs.Common.{◌≡◌, ℕ, zero, suc, ◌+◌, ◌-◌, ◌≤◌, ◌<◌, true, false, ◌&&◌, List, [], ◌∷◌, ◌++◌, take, drop, refl, sym, ◌∙◌, ap, append_assoc, arith}
use Rattle.circuit_file.specs.Tokens.{is_number, number_in, all_numbers, numbers_in}

pub drop_next : (xs ys : List (List ℕ)) (x : List ℕ) (i : ℕ) → drop i xs ≡ x ∷ ys → drop (i + 1) xs ≡ ys
drop_next xs ys x zero e = rw e refl
drop_next [] ys x (suc i) e = cc
drop_next (z ∷ xs) ys x (suc i) e = let n : suc i + 1 ≡ suc (i + 1) = omega arith in rw n (drop_next xs ys x i e)

pub drop_none : (xs : List (List ℕ)) (i k : ℕ) → drop i xs ≡ [] → i ≤ k → drop k xs ≡ []
drop_none [] i zero e l = refl
drop_none [] i (suc k) e l = refl
drop_none (x ∷ xs) zero k e l = cc
drop_none (x ∷ xs) (suc i) zero e l = absurd (omega arith)
drop_none (x ∷ xs) (suc i) (suc k) e l = drop_none xs i k e (omega arith)

pub take_front : (ts ys : List (List ℕ)) (t : List ℕ) (n i : ℕ) → ts ≡ t ∷ ys → i < n → take (n - i) ts ≡ t ∷ take (n - (i + 1)) ys
take_front ts ys t n i e l = let k : n - i ≡ suc (n - (i + 1)) = omega arith in rw (e, k) refl

pub take_none : (ts : List (List ℕ)) (n : ℕ) → ts ≡ [] → take n ts ≡ []
take_none ts zero e = refl
take_none ts (suc n) e = rw e refl

pub numbers_front : (ts ys : List (List ℕ)) (t : List ℕ) (n i : ℕ) → ts ≡ t ∷ ys → i < n → is_number t ≡ true → all_numbers (take (n - i) ts) ≡ all_numbers (take (n - (i + 1)) ys)
numbers_front ts ys t n i e l good = ap all_numbers (take_front ts ys t n i e l) ∙ ap (λ b. b && all_numbers (take (n - (i + 1)) ys)) good

pub numbers_stop : (ts ys : List (List ℕ)) (t : List ℕ) (n i : ℕ) → ts ≡ t ∷ ys → i < n → is_number t ≡ false → all_numbers (take (n - i) ts) ≡ false
numbers_stop ts ys t n i e l bad = ap all_numbers (take_front ts ys t n i e l) ∙ ap (λ b. b && all_numbers (take (n - (i + 1)) ys)) bad

pub numbers_end : (ts : List (List ℕ)) (n : ℕ) → ts ≡ [] → all_numbers (take n ts) ≡ true
numbers_end ts n e = ap all_numbers (take_none ts n e)

pub numbers_step : (found pushed : List ℕ) (ts ys : List (List ℕ)) (t : List ℕ) (n i k : ℕ) → ts ≡ t ∷ ys → i < n → k ≡ number_in t → pushed ≡ found ++ (k ∷ [])
    → pushed ++ numbers_in (take (n - (i + 1)) ys) ≡ found ++ numbers_in (take (n - i) ts)
numbers_step found pushed ts ys t n i k e l is p =
    ap (λ xs. xs ++ numbers_in (take (n - (i + 1)) ys)) p
    ∙ append_assoc found (k ∷ []) (numbers_in (take (n - (i + 1)) ys))
    ∙ ap (λ x. found ++ (x ∷ numbers_in (take (n - (i + 1)) ys))) is
    ∙ ap (λ xs. found ++ numbers_in xs) (sym (take_front ts ys t n i e l))
