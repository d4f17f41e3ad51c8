-- The text of a node that is done: for each session and output value that its party reads, a line with the words of the
-- value's wires; and the view of its party alone.
use Rattle.std.specs.Prelude.{ℕ, ◌+◌, Bool, List, [], ◌∷◌, ◌++◌, length}
use Rattle.std.specs.Option.{unwrap_or}
use Rattle.list_laws.specs.Lists.{joined, listed, only_if}
use Rattle.party_set.specs.Parties.{has_party, party_mask}
use Rattle.party_names.specs.Names.{name_at}
use Rattle.plan_model.specs.Plans.{Plan, session}
use Rattle.plan_model.specs.Numbers.{message}
use Rattle.plan_model.specs.declared.key.Key.{Key}
use Rattle.share_world.specs.Worlds.{touches}
use Rattle.node_talk.specs.Runs.{Results, word_kept, output_of, kept_view}
use Rattle.view_text.specs.ViewText.{view_text}
use Rattle.value_words.specs.Turned.{shown_words}
use Rattle.view_text.specs.OutLines.{out_line, output_value, wires_before}

-- the word of output wire i of session s, counted from wire `first` on
abbrev pub output_word : Results → ℕ → ℕ → ℕ → ℕ
output_word r s first i = unwrap_or (output_of r s (first + i)) 0

-- the words of `width` of them
abbrev pub output_words : Results → ℕ → ℕ → ℕ → List ℕ
output_words r s first width = listed width (output_word r s first)

-- and what is written of them: these words, or numbers
abbrev pub shown_output : List Bool → Plan → Results → ℕ → ℕ → ℕ → List ℕ
shown_output numeric plan r s first width = shown_words numeric s plan.bits width (output_word r s first)

-- the line of output value v of session s, where party me reads the value
abbrev pub value_line : List ℕ → List Bool → Plan → ℕ → Results → ℕ → ℕ → List ℕ
value_line reader numeric plan me r s v =
    only_if (has_party (output_value (session plan s) v).readers.mask me)
    (out_line s v reader
    (shown_output numeric plan r s (wires_before (session plan s) v) (output_value (session plan s) v).width))

abbrev pub session_lines : List ℕ → List Bool → Plan → ℕ → Results → ℕ → List ℕ
session_lines reader numeric plan me r s =
    joined (length (session plan s).outputs) (value_line reader numeric plan me r s)

-- what it kept of message m, where a member of the group sends or gets it
abbrev pub kept_message : Plan → ℕ → Results → ℕ → List (Key × ℕ)
kept_message plan group r m =
    only_if (touches group (message plan m)) ((message plan m, unwrap_or (word_kept r m) 0) ∷ [])

-- the lines of what it reads
abbrev pub outputs_text : List (List ℕ) → List Bool → Plan → ℕ → Results → List ℕ
outputs_text names numeric plan me r =
    joined (length plan.sessions) (session_lines (name_at names me) numeric plan me r)

-- and then, where it is asked for, the view of its party alone, as it kept it
unfoldable pub node_text : List (List ℕ) → List Bool → Plan → ℕ → Bool → Results → List ℕ
node_text names numeric plan me view r =
    outputs_text names numeric plan me r ++ only_if view (view_text names (party_mask me) (kept_view plan me r))
