-- Cutting a text into lines.
use Rattle.std.proofs.Common.{◌≡◌, ℕ, zero, suc, ◌+◌, ◌<◌, false, List, [], ◌∷◌, ◌++◌, length, take, drop, get_or, refl, sym, ◌∙◌, ap, arith}
use Rattle.std.specs.List.{slice_split}
use Rattle.std.proofs.lemmas.List.Splits.{slice_split_none, slice_split_at}
use Rattle.std.proofs.lemmas.List.Elements.{All-from_get_or}
use Rattle.std.proofs.lemmas.List.{length-take-le}
use Rattle.line_grammar.specs.Lines.{is_line_end}

-- no line ends before a place
abbrev pub NoEnd : List ℕ → ℕ → Type 0
NoEnd text i = (k : ℕ) → k < i → is_line_end (get_or text k 0) ≡ false

cut : (text : List ℕ) (at : ℕ) → at < length text → take at text ++ (get_or text at 0 ∷ drop (at + 1) text) ≡ text
cut [] at l = absurd (omega arith)
cut (c ∷ cs) zero l = refl
cut (c ∷ cs) (suc at) l = ap (λ t. c ∷ t) (ap (λ k. take at cs ++ (get_or cs at 0 ∷ drop k (c ∷ cs))) (let e : suc at + 1 ≡ suc (at + 1) = omega arith in e) ∙ cut cs at (omega arith))

front_at : (text : List ℕ) (at k : ℕ) → k < at → get_or (take at text) k 0 ≡ get_or text k 0
front_at [] zero k l = absurd (omega arith)
front_at [] (suc at) k l = refl
front_at (c ∷ cs) zero k l = absurd (omega arith)
front_at (c ∷ cs) (suc at) zero l = refl
front_at (c ∷ cs) (suc at) (suc k) l = front_at cs at k (omega arith)

-- the first line ends here
pub first_line : (text : List ℕ) (at : ℕ) → at < length text → get_or text at 0 ≡ 10 → NoEnd text at → slice_split is_line_end text ≡ take at text ∷ slice_split is_line_end (drop (at + 1) text)
first_line text at l e none =
    ap (slice_split is_line_end) (sym (cut text at l))
    ∙ ap (λ c. slice_split is_line_end (take at text ++ (c ∷ drop (at + 1) text))) e
    ∙ slice_split_at is_line_end (take at text) 10 (drop (at + 1) text)
    (All-from_get_or (λ c. is_line_end c ≡ false) (take at text) 0 (λ k m. ap is_line_end (front_at text at k (omega (arith, m, length-take-le at text))) ∙ none k (omega (arith, m, length-take-le at text)))) refl

-- no line ends in the text
pub last_line : (text : List ℕ) → NoEnd text (length text) → slice_split is_line_end text ≡ text ∷ []
last_line text none = slice_split_none is_line_end text (All-from_get_or (λ c. is_line_end c ≡ false) text 0 none)
