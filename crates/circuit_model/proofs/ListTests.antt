-- Tests and sums of what is left of a list, along a loop.
use Rattle.std.proofs.Common.{◌≡◌, ℕ, zero, suc, ◌+◌, ◌-◌, ◌≤◌, ◌<◌, Bool, true, false, ◌&&◌, List, [], ◌∷◌, length, drop, get_or, refl, sym, ◌∙◌, ap, arith, drop-cons, nat_lt, sum}
use Rattle.std.specs.List.{list_all}
use Rattle.std.proofs.lemmas.List.{drop_all}
use Rattle.std.proofs.lemmas.List.Sums.{sum_by-drop_more}
use Rattle.std.proofs.lemmas.Bool.{lt-ltb, le-ltb, ltb-true, and_parts}

pub all_yes : (p : ℕ → Bool) (xs : List ℕ) (i : ℕ) → i < length xs → p (get_or xs i 0) ≡ true → list_all p (drop i xs) ≡ list_all p (drop (i + 1) xs)
all_yes p xs i l e = ap (list_all p) (drop-cons xs i 0 l) ∙ ap (λ b. b && list_all p (drop (suc i) xs)) e ∙ ap (λ k. list_all p (drop k xs)) (let n : suc i ≡ i + 1 = omega arith in n)

pub all_no : (p : ℕ → Bool) (xs : List ℕ) (i : ℕ) → i < length xs → p (get_or xs i 0) ≡ false → list_all p (drop i xs) ≡ false
all_no p xs i l e = ap (list_all p) (drop-cons xs i 0 l) ∙ ap (λ b. b && list_all p (drop (suc i) xs)) e

pub all_end : (p : ℕ → Bool) (xs : List ℕ) (i : ℕ) → length xs ≤ i → list_all p (drop i xs) ≡ true
all_end p xs i l = ap (list_all p) (drop_all i xs l)

pub all_at : (p : ℕ → Bool) (xs : List ℕ) (i : ℕ) → list_all p xs ≡ true → i < length xs → p (get_or xs i 0) ≡ true
all_at p [] i e l = absurd (omega arith)
all_at p (x ∷ xs) zero e l = (and_parts (p x) (list_all p xs) e).0
all_at p (x ∷ xs) (suc i) e l = all_at p xs i (and_parts (p x) (list_all p xs) e).1 (omega arith)

same_test : (a b c d : ℕ) → (a < b → c < d) → (c < d → a < b) → nat_lt a b ≡ nat_lt c d
same_test a b c d f g = go (nat_lt a b) refl
  where
    other : (t : Bool) → nat_lt a b ≡ false → nat_lt c d ≡ t → nat_lt a b ≡ nat_lt c d
    other true e e' = lt-ltb a b (g (ltb-true c d e')) ∙ sym e'
    other false e e' = e ∙ sym e'

    go : (t : Bool) → nat_lt a b ≡ t → nat_lt a b ≡ nat_lt c d
    go true e = e ∙ sym (lt-ltb c d (f (ltb-true a b e)))
    go false e = other (nat_lt c d) e refl

rest : (xs : List ℕ) (i : ℕ) → i < length xs → sum (drop i xs) ≡ get_or xs i 0 + sum (drop (i + 1) xs)
rest xs i l = sum_by-drop_more (λ x. x) xs i 0 l

-- what is left of the wires, once so many widths are taken from them
pub exceeds_next : (xs : List ℕ) (i left : ℕ) → i < length xs → get_or xs i 0 ≤ left → nat_lt left (sum (drop i xs)) ≡ nat_lt (left - get_or xs i 0) (sum (drop (i + 1) xs))
exceeds_next xs i left l e = ap (nat_lt left) (rest xs i l) ∙ less_by (get_or xs i 0) left (sum (drop (i + 1) xs)) e
  where
    less_by : (x left more : ℕ) → x ≤ left → nat_lt left (x + more) ≡ nat_lt (left - x) more
    less_by x left more e = same_test left (x + more) (left - x) more (λ h. omega (arith, e, h)) (λ h. omega (arith, e, h))

pub exceeds_here : (xs : List ℕ) (i left : ℕ) → i < length xs → left < get_or xs i 0 → nat_lt left (sum (drop i xs)) ≡ true
exceeds_here xs i left l e = ap (nat_lt left) (rest xs i l) ∙ less (get_or xs i 0) left (sum (drop (i + 1) xs)) e
  where
    less : (x left more : ℕ) → left < x → nat_lt left (x + more) ≡ true
    less x left more e = lt-ltb left (x + more) (omega (arith, e))

pub exceeds_end : (xs : List ℕ) (i left : ℕ) → length xs ≤ i → nat_lt left (sum (drop i xs)) ≡ false
exceeds_end xs i left l = ap (λ ys. nat_lt left (sum ys)) (drop_all i xs l) ∙ le-ltb left 0 (omega arith)
