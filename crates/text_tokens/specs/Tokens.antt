-- The tokens of a text.
use Rattle.std.specs.Prelude.{ℕ, ◌==◌, Bool, true, false, ◌||◌, List, [], ◌∷◌, filter}
use Rattle.std.specs.List.{slice_split}

-- space, tab, LF, CR
abbrev pub is_blank : ℕ → Bool
is_blank c = (c == 32) || ((c == 9) || ((c == 10) || (c == 13)))

abbrev pub not_empty : {A : Type 0} → List A → Bool
not_empty [] = false
not_empty (x ∷ xs) = true

-- the runs between blanks
unfoldable pub tokens_of : List ℕ → List (List ℕ)
tokens_of text = filter not_empty (slice_split is_blank text)
