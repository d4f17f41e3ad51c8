-- Steps of the loops that take what parties give and move pieces.
use Rattle.std.proofs.Common.{◌≡◌, ℕ, ◌+◌, ◌<◌, List, [], ◌∷◌, ◌++◌, All, length, drop, map, refl, ap, ap₂, ◌∙◌, arith, append_assoc}
use Rattle.std.specs.Prelude.{slice_index_or}
use Rattle.std.proofs.lemmas.List.{length-drop, get_or-drop, drop-drop}
use Rattle.std.proofs.lemmas.List.Elements.{All-map}

-- the first of what is yet to come goes behind what came
pub one_more : {A : Type 0} (xs ys whole : List A) (y : A) (added : List A) → xs ++ y ∷ ys ≡ whole → added ≡ xs ++ y ∷ [] → added ++ ys ≡ whole
one_more xs ys whole y added e f = ap (λ z. z ++ ys) f ∙ append_assoc xs (y ∷ []) ys ∙ e

-- the first piece after s pieces is piece s
pub first_left : (s : ℕ) (tapes : List (List (List ℕ))) → map (λ pieces. slice_index_or pieces 0 []) (map (drop s) tapes) ≡ map (λ pieces. slice_index_or pieces s []) tapes
first_left s [] = refl
first_left s (x ∷ xs) = let same : s + 0 ≡ s = omega arith in ap₂ (λ y ys. y ∷ ys) (get_or-drop s x 0 [] ∙ ap (λ z. slice_index_or x z []) same) (first_left s xs)

pub one_less : (s : ℕ) (tapes : List (List (List ℕ))) → map (drop 1) (map (drop s) tapes) ≡ map (drop (s + 1)) tapes
one_less s [] = refl
one_less s (x ∷ xs) = ap₂ (λ y ys. y ∷ ys) (drop-drop 1 s x) (one_less s xs)

pub none_less : (tapes : List (List (List ℕ))) → tapes ≡ map (drop 0) tapes
none_less [] = refl
none_less (x ∷ xs) = ap (λ ys. x ∷ ys) (none_less xs)

-- there is a piece for the session
pub some_left : (s sessions : ℕ) (tapes : List (List (List ℕ))) → s < sessions → All (λ pieces. length pieces ≡ sessions) tapes → All (λ pieces. 0 < length pieces) (map (drop s) tapes)
some_left s sessions tapes l h = All-map (λ pieces. 0 < length pieces) (drop s) tapes (λ p d lp. omega (arith, l, h p d lp, length-drop s (slice_index_or tapes p d)))

pub first_is : (pieces : List (List ℕ)) (x : List ℕ) → 0 < length pieces → x ≡ slice_index_or pieces 0 x → x ≡ slice_index_or pieces 0 []
first_is [] x l e = absurd (omega arith)
first_is (y ∷ ys) x l e = e
