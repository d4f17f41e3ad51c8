-- What a group sees, message by message, as it is written.
use Rattle.std.specs.Prelude.{ℕ, List}
use Rattle.plan_model.specs.declared.key.Key.{Key}
use Rattle.plan_model.specs.Plans.{slot}
use Rattle.plan_model.specs.Messages.{slot_messages, session_messages}
use Rattle.share_world.specs.Worlds.{World}
use Rattle.view_text.specs.ViewText.{message_lines}
use Rattle.view_text.specs.Seen.{seen_of}

-- the lines of those of some messages that a member of the group sends or receives
unfoldable pub seen_lines : List (List ℕ) → World → ℕ → List Key → List ℕ
seen_lines names w group keys = message_lines names (seen_of w group keys)

-- those of slot k of session s, and of session s
abbrev pub slot_seen : List (List ℕ) → World → ℕ → ℕ → ℕ → List ℕ
slot_seen names w group s k = seen_lines names w group (slot_messages w.plan s k (slot w.plan s k))

abbrev pub session_seen : List (List ℕ) → World → ℕ → ℕ → List ℕ
session_seen names w group s = seen_lines names w group (session_messages w.plan s)
