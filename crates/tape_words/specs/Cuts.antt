-- Faults of tapes, and their pieces.
use Rattle.std.specs.Prelude.{◌≡◌, ℕ, ◌<◌, ◌≤◌, List, [], ◌∷◌, length, slice_index, sum, take, drop}
use Rattle.tape_words.specs.declared.tape.TapeFault.{TapeFault}
use Rattle.tape_words.specs.declared.tape.TapeFault.TheVariants.{WordOutOfRing}
use Rattle.tape_words.specs.declared.tape.SplitFault.{SplitFault}
use Rattle.tape_words.specs.declared.tape.SplitFault.TheVariants.{TapeShort, Memory}

-- the fault names the first word that isn't below q
abbrev pub IsFirstOutside : ℕ → List ℕ → TapeFault → Type 0
IsFirstOutside q words (WordOutOfRing at) =
    (at < length words) × (q ≤ slice_index words at) × ((k : ℕ) → k < at → slice_index words k < q)

-- consecutive pieces of these counts of words
abbrev pub cut : List ℕ → List ℕ → List (List ℕ)
cut [] words = []
cut (count ∷ counts) words = take count words ∷ cut counts (drop count words)

-- when each refusal comes: the words are too few, or there are enough and it is out of memory
abbrev pub IsSplitRefusal : List ℕ → List ℕ → SplitFault → Type 0
IsSplitRefusal counts words (TapeShort wanted found) = (wanted ≡ sum counts) × (found ≡ length words) × (found < wanted)
IsSplitRefusal counts words Memory = sum counts ≤ length words
