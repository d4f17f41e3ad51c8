-- Lines of parts are cut into the same parts again.
use Rattle.std.proofs.Common.{◌≡◌, ℕ, ◌+◌, ◌<◌, Bool, true, false, ◌||◌, nat_eq, List, [], ◌∷◌, ◌++◌, length, refl, ◌∙◌, ap, arith, filter}
use Rattle.std.specs.List.{AllByRecursion, slice_split}
use Rattle.std.specs.Str.{IsUtf8}
use Rattle.std.proofs.lemmas.List.{append-nil}
use Rattle.std.proofs.lemmas.Str.{IsUtf8-from_ascii}
use Rattle.std.proofs.lemmas.Str.Ascii.{IsAscii-from_all}
use Rattle.std.proofs.lemmas.List.Splits.{slice_split_none, slice_split_at}
use Rattle.std.proofs.lemmas.List.Elements.{All-from_recursion}
use Rattle.list_laws.proofs.JoinedLists.{every_append, every_weaker}
use Rattle.text_tokens.specs.Tokens.{is_blank, not_empty, tokens_of}
use Rattle.text_tokens.proofs.FirstTokens.{keep_first}
use Rattle.gate_lines.specs.Rows.{Row, is_line_end, rows_from}
use Rattle.gate_lines.proofs.TextLines.{rows-line, rows-none, row-tokens}
use Rattle.circuit_file.specs.CircuitTexts.{spaced, parts_text, lines_text}

-- a part of ASCII that has a byte, and no blank
pub record IsPart (part : List ℕ) : Type 0 where
  pub some : 0 < length part
  pub clear : AllByRecursion (λ c. is_blank c ≡ false) part
  pub ascii : AllByRecursion (λ c. c < 128) part

-- one part or more
abbrev pub ArePart : List (List ℕ) → Type 0
ArePart [] = ⊥
ArePart (p ∷ ps) = IsPart p × AllByRecursion IsPart ps

split_parts : (p : List ℕ) (ps : List (List ℕ)) → AllByRecursion (λ c. is_blank c ≡ false) p → AllByRecursion IsPart ps → slice_split is_blank (p ++ spaced ps) ≡ p ∷ ps
split_parts p [] clear all =
    slice_split_none is_blank (p ++ []) (All-from_recursion (λ c. is_blank c ≡ false) (p ++ []) (every_append (λ c. is_blank c ≡ false) p [] clear tt))
    ∙ ap (λ x. x ∷ []) (append-nil p)
split_parts p (q ∷ qs) clear all =
    slice_split_at is_blank p 32 (q ++ spaced qs) (All-from_recursion (λ c. is_blank c ≡ false) p clear) refl
    ∙ ap (λ x. p ∷ x) (split_parts q qs all.0.clear all.1)

keep_all : (ps : List (List ℕ)) → AllByRecursion IsPart ps → filter not_empty ps ≡ ps
keep_all [] all = refl
keep_all (p ∷ ps) all = keep_first p ps all.0.some ∙ ap (λ x. p ∷ x) (keep_all ps all.1)

-- the tokens of parts separated by a space
pub tokens_of-parts : (ps : List (List ℕ)) → ArePart ps → tokens_of (parts_text ps) ≡ ps
unfolding tokens_of
tokens_of-parts [] all = absurd all
tokens_of-parts (p ∷ ps) all = ap (filter not_empty) (split_parts p ps all.0.clear all.1) ∙ keep_all (p ∷ ps) all

no_end : (c : ℕ) → is_blank c ≡ false → is_line_end c ≡ false
no_end c e = go (nat_eq c 32) (nat_eq c 9) (nat_eq c 10) (nat_eq c 13) e
  where
    go : (a b l r : Bool) → (a || (b || (l || r))) ≡ false → l ≡ false
    go a b false r e = refl
    go true b true r e = e
    go false true true r e = e
    go false false true r e = e

spaced_no_end : (ps : List (List ℕ)) → AllByRecursion IsPart ps → AllByRecursion (λ c. is_line_end c ≡ false) (spaced ps)
spaced_no_end [] all = tt
spaced_no_end (p ∷ ps) all =
    (refl, every_append (λ c. is_line_end c ≡ false) p (spaced ps) (every_weaker (λ c. is_blank c ≡ false) (λ c. is_line_end c ≡ false) p no_end all.0.clear) (spaced_no_end ps all.1))

parts_no_end : (ps : List (List ℕ)) → ArePart ps → AllByRecursion (λ c. is_line_end c ≡ false) (parts_text ps)
parts_no_end [] all = absurd all
parts_no_end (p ∷ ps) all =
    every_append (λ c. is_line_end c ≡ false) p (spaced ps) (every_weaker (λ c. is_blank c ≡ false) (λ c. is_line_end c ≡ false) p no_end all.0.clear) (spaced_no_end ps all.1)

-- rows with these tokens, from line n on
abbrev pub rows_with : ℕ → List (List (List ℕ)) → List Row
rows_with n [] = []
rows_with n (parts ∷ lines) = record { number = n; tokens = parts } ∷ rows_with (n + 1) lines

-- the rows of written lines
pub rows_from-lines : (n : ℕ) (lines : List (List (List ℕ))) → AllByRecursion ArePart lines → rows_from n (lines_text lines) ≡ rows_with n lines
rows_from-lines n [] all = rows-none n [] refl
rows_from-lines n ([] ∷ lines) all = absurd all.0
rows_from-lines n ((p ∷ ps) ∷ lines) all =
    rows-line n (lines_text ((p ∷ ps) ∷ lines)) (parts_text (p ∷ ps)) (lines_text lines)
    (slice_split_at is_line_end (parts_text (p ∷ ps)) 10 (lines_text lines) (All-from_recursion (λ c. is_line_end c ≡ false) (parts_text (p ∷ ps)) (parts_no_end (p ∷ ps) all.0)) refl)
    ∙ row-tokens n (parts_text (p ∷ ps)) p ps (rows_from (n + 1) (lines_text lines)) (tokens_of-parts (p ∷ ps) all.0)
    ∙ ap (λ ts. record { number = n; tokens = ts } ∷ rows_from (n + 1) (lines_text lines)) (tokens_of-parts (p ∷ ps) all.0)
    ∙ ap (λ rows. record { number = n; tokens = p ∷ ps } ∷ rows) (rows_from-lines (n + 1) lines all.1)

spaced_ascii : (ps : List (List ℕ)) → AllByRecursion IsPart ps → AllByRecursion (λ c. c < 128) (spaced ps)
spaced_ascii [] all = tt
spaced_ascii (p ∷ ps) all = (omega arith, every_append (λ c. c < 128) p (spaced ps) all.0.ascii (spaced_ascii ps all.1))

lines_ascii : (lines : List (List (List ℕ))) → AllByRecursion ArePart lines → AllByRecursion (λ c. c < 128) (lines_text lines)
lines_ascii [] all = tt
lines_ascii ([] ∷ lines) all = absurd all.0
lines_ascii ((p ∷ ps) ∷ lines) all =
    every_append (λ c. c < 128) (p ++ spaced ps) (10 ∷ lines_text lines)
    (every_append (λ c. c < 128) p (spaced ps) all.0.0.ascii (spaced_ascii ps all.0.1)) (omega arith, lines_ascii lines all.1)

-- written lines are UTF-8
pub lines_utf8 : (lines : List (List (List ℕ))) → AllByRecursion ArePart lines → IsUtf8 (lines_text lines)
lines_utf8 lines all = IsUtf8-from_ascii (lines_text lines) (IsAscii-from_all (lines_text lines) (All-from_recursion (λ c. c < 128) (lines_text lines) (lines_ascii lines all)))
