-- The text of a pair of runs: for each its outputs and what a group sees of it, and then the tapes of the second.
use Rattle.std.specs.Prelude.{ℕ, Bool, List, [], ◌++◌, length, slice_index_or, codes}
use Rattle.list_laws.specs.Lists.{joined}
use Rattle.plan_model.specs.declared.key.Key.{Key}
use Rattle.share_world.specs.Worlds.{World, view}
use Rattle.text_parts.specs.Parts.{words_text}
use Rattle.party_names.specs.Names.{name_at}
use Rattle.output_text.specs.RunText.{seen_text}

-- the name of party p, and the words of its tape
abbrev pub tape_line : List (List ℕ) → List (List ℕ) → ℕ → List ℕ
tape_line names tapes p =
    codes "tape " ++ (name_at names p ++ (words_text (slice_index_or tapes p []) ++ codes "\n"))

abbrev pub tapes_text : List (List ℕ) → List (List ℕ) → List ℕ
tapes_text names tapes = joined (length names) (tape_line names tapes)

-- the runs of two worlds, of which a group sees this
abbrev pub pair_seen : List (List ℕ) → List Bool → World → World → ℕ → List (Key × ℕ) → List (Key × ℕ) → List ℕ
pair_seen names numeric first second group first_seen second_seen =
    codes "first\n" ++ (seen_text names numeric first group first_seen
    ++ (codes "second\n" ++ (seen_text names numeric second group second_seen ++ tapes_text names second.tapes)))

-- and what it does see of them
unfoldable pub pair_text : List (List ℕ) → List Bool → World → World → ℕ → List ℕ
pair_text names numeric first second group =
    pair_seen names numeric first second group (view first group) (view second group)
