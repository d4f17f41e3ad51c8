-- What a group sees of some messages, and where a message stands.
use Rattle.std.specs.Prelude.{◌≡◌, ℕ, ◌<◌, List, filter, map, length}
use Rattle.plan_model.specs.declared.key.Key.{Key}
use Rattle.plan_model.specs.Plans.{Plan}
use Rattle.plan_model.specs.Messages.{messages}
use Rattle.plan_model.specs.Numbers.{message}
use Rattle.program_laws.specs.Once.{IsBetweenParties}
use Rattle.share_world.specs.Worlds.{World, touches, word}

-- those of the messages that a member of the group sends or receives, with their words
abbrev pub seen_of : World → ℕ → List Key → List (Key × ℕ)
seen_of w group keys = map (λ key. (key, word w key)) (filter (touches group) keys)

-- the message of this number is this one, which goes from one party to another or stays with its party
pub record IsMessage (plan : Plan) (n : ℕ) (key : Key) : Type 0 where
  pub there : n < length (messages plan)
  pub is : message plan n ≡ key
  pub between : IsBetweenParties plan key
