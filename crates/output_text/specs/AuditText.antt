-- The text of an audit that says yes.
use Rattle.std.specs.Prelude.{ℕ, List, codes}
use Rattle.output_text.specs.CheckText.{count_line}

-- `yes`, and how many messages the view has
unfoldable pub yes_text : ℕ → List ℕ
yes_text count = count_line (codes "yes") count
