-- What the fold of a writer's seat and a reader's tells.
use Rattle.std.specs.Prelude.{◌≡◌, ◌≢◌, ℕ, ◌<◌, List, [], ◌∷◌, length, slice_index, Some}
use Rattle.message_board.specs.Pairs.{Knows}
use Rattle.inbox_board.specs.declared.steps.InboxView.{InboxView}
use Rattle.inbox_board.specs.Rule.{newcomer, pushes, ends, folds, FitsTogether}

-- a writer's view after it pushed these words in order
abbrev pub pushed : InboxView → List ℕ → InboxView
pushed v [] = v
pushed v (word ∷ words) = pushed (pushes v word) words

-- each word that a reader got is the one pushed at its place, a mark that it found is the one given, and a count that
-- it found after a mark is that of all words pushed
pub record GotWhatWasPushed (words : List ℕ) (given : ℕ) (reader : InboxView) : Type 0 where
  pub known : (place w : ℕ) → Knows reader.seen place w → (place < length words) × (slice_index words place ≡ w)
  pub mark : reader.noted ≢ 0 → reader.noted ≡ given
  pub total : (n : ℕ) → reader.total ≡ Some n → n ≡ length words

-- so it is where the fold of a writer that pushed these words and gave this mark with a reader fits together
abbrev pub FoldTells : Type 0
FoldTells =
    (words : List ℕ) (given : ℕ) (reader : InboxView) → reader.length ≡ 0 → reader.ended ≡ 0
    → FitsTogether (folds (ends (pushed (newcomer 1) words) given) reader) → GotWhatWasPushed words given reader
