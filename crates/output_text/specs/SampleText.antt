-- The text of a sample: its number, the counts of its plan, and the outputs of its run.
use Rattle.std.specs.Prelude.{ℕ, List, [], ◌++◌, length, codes}
use Rattle.list_laws.specs.Lists.{joined}
use Rattle.session_slots.specs.Counts.{products}
use Rattle.plan_model.specs.Plans.{session}
use Rattle.plan_model.specs.Messages.{messages}
use Rattle.share_world.specs.Worlds.{World}
use Rattle.output_text.specs.CheckText.{count_line, words_line}
use Rattle.output_text.specs.OutText.{out_text}

unfoldable pub sample_text : List (List ℕ) → World → ℕ → List ℕ
sample_text names w n =
    count_line (codes "sample") n
    ++ (count_line (codes "products") (products (session w.plan 0))
    ++ (count_line (codes "messages") (length (messages w.plan))
    ++ (joined w.plan.parties (words_line names w.plan) ++ out_text names [] w)))
