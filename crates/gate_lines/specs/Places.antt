-- Places within the lines of a text.
use Rattle.std.specs.Prelude.{◌≡◌, ℕ, ◌+◌, ◌≤◌, ◌<◌, Bool, false, not, ◌&&◌, length, slice_index, List, [], ◌∷◌, drop, slice_index_or, if◌then◌else◌}
use Rattle.std.specs.List.{before_first, after_first}
use Rattle.text_tokens.specs.Tokens.{is_blank, not_empty, tokens_of}
use Rattle.gate_lines.specs.Rows.{Row, is_line_end, rows_from}

-- what is left of a line with this number, and the rows after it
pub record Place : Type 0 where
  pub number : ℕ
  pub tokens : List (List ℕ)
  pub rows : List Row

-- the place at which a text begins, within a line with the number n
unfoldable pub place_in : ℕ → List ℕ → Place
place_in n text = record {
  number = n;
  tokens = tokens_of (before_first is_line_end text);
  rows = rows_from (n + 1) (after_first is_line_end text);
}

-- the rows from a place on
abbrev pub rows_at : Place → List Row
rows_at p = if not_empty p.tokens then record { number = p.number; tokens = p.tokens } ∷ p.rows else p.rows

-- the token that is next, or the empty text at the end of the line
abbrev pub next_token : Place → List ℕ
next_token p = slice_index_or p.tokens 0 []

-- the place after the next token
abbrev pub past_token : Place → Place
past_token p = record p { tokens = drop 1 p.tokens }

-- a blank within a line: space, tab, CR
abbrev pub is_inner_blank : ℕ → Bool
is_inner_blank c = is_blank c && not (is_line_end c)

-- a byte of a text, or its end, at which no blank stands within a line
abbrev pub StandsAt : List ℕ → ℕ → Type 0
StandsAt text at = (at ≤ length text) × (at < length text → is_inner_blank (slice_index text at) ≡ false)

-- from a token of a text to the next one, or to the end of the line
pub record Passes (text : List ℕ) (start next : ℕ) : Type 0 where
  pub after : start ≤ next
  pub stands : StandsAt text next
  pub token : (n : ℕ) → place_in n (drop next text) ≡ past_token (place_in n (drop start text))
