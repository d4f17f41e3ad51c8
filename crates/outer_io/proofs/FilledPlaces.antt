-- A place that is filled in several reads.
use Rattle.std.proofs.Common.{◌≡◌, ℕ, zero, suc, ◌+◌, ◌≤◌, List, [], ◌∷◌, ◌++◌, length, take, Option, Some, None, refl, ap, sym, ◌∙◌, arith, append_assoc}
use Rattle.std.proofs.lemmas.Slice.{take-put_mid}
use Rattle.std.proofs.lemmas.List.{length-take-le}
use Rattle.std.proofs.Math.Seq.{take-append-add}
use borrow.Rule.Slice.PartMut.{put_mid}
use Rattle.outer_io.specs.Inlet.{ahead}

shorter : (m n : ℕ) (xs : List ℕ) → m ≤ n → take m (take n xs) ≡ take m xs
shorter zero n xs le = refl
shorter (suc m) zero xs le = absurd (omega arith)
shorter (suc m) (suc n) [] le = refl
shorter (suc m) (suc n) (x ∷ xs) le = ap (λ z. x ∷ z) (shorter m n xs (omega arith))

-- what came before, and then
pub ahead-append : (xs ys : List ℕ) (told : Option (List ℕ)) → ahead xs (ahead ys told) ≡ ahead (xs ++ ys) told
ahead-append xs ys None = refl
ahead-append xs ys (Some left) = ap Some (sym (append_assoc xs ys left))

pub filled_more : (a k m : ℕ) (xs ys : List ℕ) → a ≤ length xs → m ≤ length ys → take (a + m) (put_mid a k xs ys) ≡ take a xs ++ take m ys
filled_more a k m xs ys la lm =
    let long : length (take a xs) ≡ a = length-take-le a xs la in
    sym (shorter (a + m) (a + length ys) (put_mid a k xs ys) (omega arith))
    ∙ ap (take (a + m)) (take-put_mid a k xs ys (a + length ys) refl la)
    ∙ ap (λ z. take (z + m) (take a xs ++ ys)) (sym long)
    ∙ take-append-add (take a xs) ys m

pub came_more : (a k m : ℕ) (xs ys : List ℕ) (before mid after : Option (List ℕ)) → a ≤ length xs → m ≤ length ys → before ≡ ahead (take a xs) mid → mid ≡ ahead (take m ys) after
    → before ≡ ahead (take (a + m) (put_mid a k xs ys)) after
came_more a k m xs ys before mid after la lm first second =
    first ∙ ap (ahead (take a xs)) second ∙ ahead-append (take a xs) (take m ys) after ∙ ap (λ z. ahead z after) (sym (filled_more a k m xs ys la lm))
