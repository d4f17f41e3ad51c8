-- Cutting a text into lines.
use Rattle.std.proofs.Common.{◌≡◌, ℕ, ◌+◌, ◌≤◌, ◌<◌, Bool, true, false, cond, List, [], ◌∷◌, ◌++◌, length, Option, Some, None, refl, sym, ◌∙◌, ap, ap₂, arith, Bor, filter}
use Rattle.std.specs.Prelude.{unwrap_or, slice_get, slice_index_or}
use Rattle.std.specs.List.{slice_split, position_or_len, before_first, after_first}
use Rattle.std.specs.Option.{option_map}
use Rattle.std.proofs.lemmas.List.Sums.{fails_before_first, length-filter, count_by-le-length}
use Rattle.std.proofs.lemmas.List.Splits.{slice_split_none, slice_split_first, length-slice_split}
use Rattle.std.proofs.lemmas.Option.{unwrap_or-slice_get}
use Rattle.text_tokens.specs.Tokens.{is_blank, not_empty, tokens_of}
use Rattle.gate_lines.specs.Rows.{Row, is_line_end, has_tokens, numbered, rows_from, row_before}

filter_cons : (p : Row → Bool) (r : Row) (rs : List Row) → filter p (r ∷ rs) ≡ filter p (r ∷ []) ++ filter p rs
filter_cons p r rs = go (p r)
  where
    go : (b : Bool) → cond b (r ∷ filter p rs) (filter p rs) ≡ cond b (r ∷ []) [] ++ filter p rs
    go true = refl
    go false = refl

-- the rows of a text whose first line is known
pub rows-line : (n : ℕ) (text line rest : List ℕ) → slice_split is_line_end text ≡ line ∷ slice_split is_line_end rest → rows_from n text ≡ row_before n line (rows_from (n + 1) rest)
unfolding rows_from
rows-line n text line rest e = ap (λ ls. filter has_tokens (numbered n ls)) e ∙ filter_cons has_tokens (record { number = n; tokens = tokens_of line }) (numbered (n + 1) (slice_split is_line_end rest))

pub rows-none : (n : ℕ) (text : List ℕ) → length text ≡ 0 → rows_from n text ≡ []
unfolding rows_from tokens_of
rows-none n [] e = refl
rows-none n (c ∷ text) e = absurd (omega arith)

pub rows-last : (n : ℕ) (text : List ℕ) → position_or_len is_line_end text ≡ length text → rows_from n text ≡ row_before n text (rows_from (n + 1) [])
unfolding rows_from tokens_of
rows-last n text e = ap (λ ls. filter has_tokens (numbered n ls)) (slice_split_none is_line_end text (λ k d l. fails_before_first is_line_end text k d (omega arith))) ∙ filter_cons has_tokens (record { number = n; tokens = tokens_of text }) []

pub rows-cut : (n : ℕ) (text line rest : List ℕ) → position_or_len is_line_end text < length text → line ≡ before_first is_line_end text → rest ≡ after_first is_line_end text → rows_from n text ≡ row_before n line (rows_from (n + 1) rest)
rows-cut n text line rest l b a = rows-line n text line rest (slice_split_first is_line_end text 0 l ∙ ap₂ (λ x y. x ∷ slice_split is_line_end y) (sym b) (sym a))

pub row-blank : (n : ℕ) (line : List ℕ) (rows : List Row) → tokens_of line ≡ [] → row_before n line rows ≡ rows
row-blank n line rows e = ap (λ ts. cond (not_empty ts) (record { number = n; tokens = ts } ∷ []) [] ++ rows) e

pub row-tokens : (n : ℕ) (line t : List ℕ) (ts : List (List ℕ)) (rows : List Row) → tokens_of line ≡ t ∷ ts → row_before n line rows ≡ record { number = n; tokens = tokens_of line } ∷ rows
row-tokens n line t ts rows e = ap (λ us. cond (not_empty us) (record { number = n; tokens = us } ∷ []) [] ++ rows) e ∙ ap (λ us. record { number = n; tokens = us } ∷ rows) (sym e)

pub few_tokens : (line : List ℕ) → length (tokens_of line) ≤ length line + 1
unfolding tokens_of
few_tokens line = omega (arith, length-filter not_empty (slice_split is_blank line), count_by-le-length not_empty (slice_split is_blank line), length-slice_split is_blank line, count_by-le-length is_blank line)

pub nth_token : (r : Option (Bor (List ℕ))) (tokens : List (List ℕ)) (n : ℕ) (d : Bor (List ℕ)) → option_map (λ (x : Bor (List ℕ)). x.now) r ≡ slice_get tokens n → d.now ≡ [] → (unwrap_or r d).now ≡ slice_index_or tokens n []
nth_token None tokens n d e z = z ∙ ap (λ o. unwrap_or o []) e ∙ unwrap_or-slice_get tokens n []
nth_token (Some x) tokens n d e z = ap (λ o. unwrap_or o []) e ∙ unwrap_or-slice_get tokens n []
