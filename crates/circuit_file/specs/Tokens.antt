-- The tokens of a line, and the numbers that they write.
use Rattle.std.specs.Prelude.{ℕ, Bool, List, [], take, drop, map, slice_index_or, is_some, unwrap_or}
use Rattle.std.specs.List.{list_all}
use Rattle.text_tokens.specs.Numbers.{number_written}
use Rattle.gate_lines.specs.Rows.{Row}

-- the token at a place
abbrev pub token : Row → ℕ → List ℕ
token row i = slice_index_or row.tokens i []

-- n tokens, after the first k
abbrev pub tokens_after : ℕ → ℕ → Row → List (List ℕ)
tokens_after k n row = take n (drop k row.tokens)

abbrev pub is_number : List ℕ → Bool
is_number t = is_some (number_written t)

-- the number that a token writes; 0 where it writes none
abbrev pub number_in : List ℕ → ℕ
number_in t = unwrap_or (number_written t) 0

abbrev pub all_numbers : List (List ℕ) → Bool
all_numbers ts = list_all is_number ts

abbrev pub numbers_in : List (List ℕ) → List ℕ
numbers_in ts = map number_in ts
