-- The options of a run are read two words at a time.
use Rattle.std.proofs.Common.{◌≡◌, ℕ, ◌≤◌, List, [], ◌∷◌, length, map, drop, slice_index_or, Some, sym, ◌∙◌, ap, arith}
use Rattle.std.specs.Prelude.{option_and_then}
use Rattle.command_words.specs.Commands.{OptionsForm, with_option, with_options}

pub two_more : {S : Type 0} (read : S → List ℕ) (words : List S) (given more : OptionsForm) (d e : S) (option word : List ℕ) → 2 ≤ length words
    → option ≡ read (slice_index_or words 0 d) → word ≡ read (slice_index_or words 1 e) → with_option given option word ≡ Some more
    → with_options given (map read words) ≡ with_options more (map read (drop 2 words))
two_more read [] given more d e option word some first second is = absurd (omega (arith, some))
two_more read (w ∷ []) given more d e option word some first second is = absurd (omega (arith, some))
two_more read (w ∷ v ∷ words) given more d e option word some first second is =
    ap (λ found. option_and_then (λ next. with_options next (map read words)) found)
    (ap (λ o. with_option given o (read v)) (sym first) ∙ ap (with_option given option) (sym second) ∙ is)
