-- Lists of texts that are compared one by one.
use Rattle.std.proofs.Common.{◌≡◌, List, [], ◌∷◌, refl, ap, map}
use Rattle.std.specs.Prelude.{String, IsTrue, ◌↔◌, ◌&&◌}
use Rattle.std.specs.String.{string_bytes, string_eq}
use Rattle.std.specs.Str.{bytes_eq}
use Rattle.std.specs.Cmp.Lexicographic.{pointwise}
use Rattle.std.specs.declared.alloc.Global.{Global}
use Rattle.std.proofs.lemmas.Slice.Eq.{bytes_eq-Decides, slice_eq-Decides}

compared_as_bytes : (xs ys : List (String Global)) → pointwise string_eq xs ys ≡ pointwise bytes_eq (map string_bytes xs) (map string_bytes ys)
compared_as_bytes [] [] = refl
compared_as_bytes [] (y ∷ ys) = refl
compared_as_bytes (x ∷ xs) [] = refl
compared_as_bytes (x ∷ xs) (y ∷ ys) = ap (λ rest. bytes_eq (string_bytes x) (string_bytes y) && rest) (compared_as_bytes xs ys)

-- two lists are equal text by text exactly where their bytes are
pub same_texts : (xs ys : List (String Global)) → IsTrue (pointwise string_eq xs ys) ↔ (map string_bytes xs ≡ map string_bytes ys)
same_texts xs ys = slice_eq-Decides bytes_eq-Decides (map string_bytes xs) (map string_bytes ys) (pointwise string_eq xs ys) (compared_as_bytes xs ys)
