-- Cutting the first part off a text.
use Rattle.std.proofs.Common.{◌≡◌, ℕ, ◌<◌, List, [], ◌∷◌, length, Some, sym, ◌∙◌, ap, ap₂, arith, Bor}
use Rattle.std.specs.Prelude.{⊤}
use Rattle.std.specs.Iterator.{MakesProgress, item_count}
use Rattle.std.specs.List.{position_or_len, before_first, after_first}
use Rattle.std.proofs.lemmas.List.Sums.{fails_before_first}
use Rattle.std.proofs.lemmas.List.Splits.{slice_split_none, slice_split_first}
use Rattle.group_text.specs.GroupTexts.{is_plus, parts_of}

pub parts-cut : (text part rest : List ℕ) → position_or_len is_plus text < length text → part ≡ before_first is_plus text → rest ≡ after_first is_plus text
    → parts_of text ≡ part ∷ parts_of rest
parts-cut text part rest l first after = slice_split_first is_plus text 0 l ∙ ap₂ (λ x y. x ∷ parts_of y) (sym first) (sym after)

pub parts-last : (text : List ℕ) → position_or_len is_plus text ≡ length text → parts_of text ≡ text ∷ []
parts-last text past = slice_split_none is_plus text (λ k d l. fails_before_first is_plus text k d (omega arith))

-- a step from a list to its rest
pub parts_go : (s t : List (List ℕ)) (x : Bor (List ℕ)) → s ≡ x.now ∷ t → MakesProgress {A = Bor (List ℕ)} (λ (ts : List (List ℕ)). ⊤) (item_count (λ ts. ts)) s (Some x) t
parts_go s t x e = record {
  on = λ f. (tt, tt, omega (arith, ap length e));
  keeps = tt;
  rests = λ f. tt;
}
