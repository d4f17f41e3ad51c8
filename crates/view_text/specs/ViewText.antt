-- The text of what a group sees of a run.
use Rattle.std.specs.Prelude.{ℕ, List, ◌++◌, codes, decimal}
use Rattle.std.specs.List.{flat_map}
use Rattle.party_names.specs.Names.{name_at}
use Rattle.plan_model.specs.declared.key.Key.{Key}
use Rattle.text_parts.specs.Parts.{group_text}

-- the session, the slot and the summand of a message
abbrev pub key_place : Key → List ℕ
key_place key = decimal key.session ++ (codes " " ++ (decimal key.slot ++ (codes " " ++ decimal key.share)))

-- its sender and its receiver, each after a space
abbrev pub key_parties : List (List ℕ) → Key → List ℕ
key_parties names key =
    codes " " ++ (name_at names key.sender ++ (codes " " ++ name_at names key.receiver))

-- the line of a message and its word: `SESSION SLOT SHARE SENDER RECEIVER WORD`
abbrev pub message_line : List (List ℕ) → Key → ℕ → List ℕ
message_line names key word =
    key_place key ++ (key_parties names key ++ ((codes " " ++ decimal word) ++ codes "\n"))

-- the lines of messages, in order
abbrev pub message_lines : List (List ℕ) → List (Key × ℕ) → List ℕ
message_lines names seen = flat_map (λ message. message_line names message.0 message.1) seen

-- the group of a view
abbrev pub view_head : List (List ℕ) → ℕ → List ℕ
view_head names group = codes "view " ++ (group_text names group ++ codes "\n")

-- what the group of this mask sees: the messages of its members, with their words
unfoldable pub view_text : List (List ℕ) → ℕ → List (Key × ℕ) → List ℕ
view_text names group seen = view_head names group ++ message_lines names seen
