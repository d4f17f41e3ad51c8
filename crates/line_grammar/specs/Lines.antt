-- The lines of a text.
use Rattle.std.specs.Prelude.{◌≡◌, ℕ, nat_eq, ◌⊎◌, Bool, List, [], ◌∷◌}
use Rattle.std.specs.List.{slice_split}

-- LF
abbrev pub is_line_end : ℕ → Bool
is_line_end c = nat_eq c 10

-- the text has this first line, and this follows it: nothing where it ends no line
abbrev pub IsCut : List ℕ → List ℕ → List ℕ → Type 0
IsCut text line rest =
    (slice_split is_line_end text ≡ line ∷ slice_split is_line_end rest)
    ⊎ ((slice_split is_line_end text ≡ line ∷ []) × (rest ≡ []))
