-- Bytes that are handed out from a place on.
use Rattle.std.proofs.Common.{◌≡◌, ℕ, zero, suc, ◌+◌, ◌-◌, List, [], ◌∷◌, ◌++◌, length, take, drop, refl, ap, ap₂, sym, ◌∙◌, arith}
use Rattle.std.proofs.lemmas.List.{drop-drop}

split_at : (n : ℕ) (xs : List ℕ) → xs ≡ take n xs ++ drop n xs
split_at zero xs = refl
split_at (suc n) [] = refl
split_at (suc n) (x ∷ xs) = ap (λ z. x ∷ z) (split_at n xs)

taken_first : (xs ys : List ℕ) → take (length xs) (xs ++ ys) ≡ xs
taken_first [] ys = refl
taken_first (x ∷ xs) ys = ap (λ z. x ∷ z) (taken_first xs ys)

-- what is left from a place on is the piece that is copied, and what is left from its end on
pub handed : (bytes from copied rest : List ℕ) (taken count : ℕ) → from ≡ bytes → copied ≡ take (taken + count - taken) (drop taken from) → length copied ≡ count
    → drop taken bytes ≡ take count (copied ++ rest) ++ drop (taken + count) bytes
handed bytes from copied rest taken count same is long =
    let some : taken + count - taken ≡ count = omega arith in
    let piece : copied ≡ take count (drop taken bytes) = is ∙ ap₂ (λ a b. take a (drop taken b)) some same in
    let first : take count (copied ++ rest) ≡ copied = ap (λ z. take z (copied ++ rest)) (sym long) ∙ taken_first copied rest in
    split_at count (drop taken bytes) ∙ ap₂ (λ a b. a ++ b) (sym (first ∙ piece)) (drop-drop count taken bytes)

pub none_left : (bytes : List ℕ) (taken : ℕ) → length bytes - taken ≡ 0 → drop taken bytes ≡ []
none_left [] zero h = refl
none_left [] (suc n) h = refl
none_left (x ∷ xs) zero h = absurd (omega arith)
none_left (x ∷ xs) (suc n) h = none_left xs n (omega arith)
