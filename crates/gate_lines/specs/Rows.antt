-- The lines of a text that have tokens, with their numbers.
use Rattle.std.specs.Prelude.{ℕ, ◌+◌, ◌==◌, Bool, List, [], ◌∷◌, ◌++◌, filter}
use Rattle.std.specs.List.{slice_split}
use Rattle.text_tokens.specs.Tokens.{not_empty, tokens_of}

-- a line: its number in the text, and its tokens
pub record Row : Type 0 where
  pub number : ℕ
  pub tokens : List (List ℕ)

-- LF
abbrev pub is_line_end : ℕ → Bool
is_line_end c = c == 10

abbrev pub has_tokens : Row → Bool
has_tokens row = not_empty row.tokens

-- lines with their numbers; no LF is left in a line, so the blanks between its tokens are space, tab and CR
abbrev pub numbered : ℕ → List (List ℕ) → List Row
numbered n [] = []
numbered n (line ∷ lines) = record { number = n; tokens = tokens_of line } ∷ numbered (n + 1) lines

-- the lines that have tokens, where the first line has the number n
unfoldable pub rows_from : ℕ → List ℕ → List Row
rows_from n text = filter has_tokens (numbered n (slice_split is_line_end text))

-- a line with the number n, and the rows after it
abbrev pub row_before : ℕ → List ℕ → List Row → List Row
row_before n line rows = filter has_tokens (record { number = n; tokens = tokens_of line } ∷ []) ++ rows

-- every line counts for line numbers, from 1
abbrev pub rows_of : List ℕ → List Row
rows_of text = rows_from 1 text
