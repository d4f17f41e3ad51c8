-- The text of a run: its outputs, and then what a group sees of it.
use Rattle.std.specs.Prelude.{ℕ, Bool, List, ◌++◌, Option, None, Some}
use Rattle.party_set.specs.Parties.{Members}
use Rattle.plan_model.specs.declared.key.Key.{Key}
use Rattle.share_world.specs.Worlds.{World, view}
use Rattle.view_text.specs.ViewText.{view_text}
use Rattle.output_text.specs.OutText.{out_text}

-- the outputs of a run, and then what a group sees of it
abbrev pub seen_text : List (List ℕ) → List Bool → World → ℕ → List (Key × ℕ) → List ℕ
seen_text names numeric w group seen = out_text names numeric w ++ view_text names group seen

-- the outputs of a run, and then what a group sees, if one is given
unfoldable pub run_text : List (List ℕ) → List Bool → World → Option Members → List ℕ
run_text names numeric w None = out_text names numeric w
run_text names numeric w (Some group) = seen_text names numeric w group.mask (view w group.mask)
