-- The tables that go with a plan.
use Rattle.std.specs.Prelude.{◌≡◌, ℕ, List, length, map}
use Rattle.std.specs.List.{Contains}
use Rattle.list_laws.specs.Lists.{listed}
use Rattle.plan_model.specs.declared.pattern.Pattern.TheVariants.{Multiplied, Opened, HandedOut, OpenedToAll, Held}
use Rattle.job_plan.specs.declared.patterns.Patterns.{Patterns}
use Rattle.plan_model.specs.Plans.{Plan}
use Rattle.plan_model.specs.Firsts.{starts_of, word_starts_of}
use Rattle.plan_model.specs.Messages.{messages}
use Rattle.plan_model.specs.Sound.{IsSound}
use Rattle.plan_model.specs.Patterns.{deal_transfers, transfers, IsReadBy}

-- the transfers of each pattern that occurs in the plan
pub record AreTransfers (plan : Plan) (patterns : Patterns) : Type 0 where
  pub product : patterns.product ≡ transfers plan Multiplied
  pub handed_out : patterns.handed_out ≡ transfers plan HandedOut
  pub opened_to_all : patterns.opened_to_all ≡ transfers plan OpenedToAll
  pub held : patterns.held ≡ transfers plan Held
  pub deals : patterns.deals.items ≡ listed plan.parties (deal_transfers plan)
  pub readers : (mask : ℕ) → IsReadBy plan mask → Contains patterns.readers mask
  pub openings : patterns.openings.items ≡ map (λ mask. transfers plan (Opened mask)) patterns.readers

-- a plan's tables: how many messages there are, the transfers of its patterns, where the messages of each slot begin,
-- and each party's words before each session
pub record IsLaid (plan : Plan) (count : ℕ) (patterns : Patterns) (starts words : List (List ℕ)) : Type 0 where
  pub sound : IsSound plan
  pub counted : count ≡ length (messages plan)
  pub transfers : AreTransfers plan patterns
  pub begin : starts ≡ starts_of plan
  pub drawn : words ≡ word_starts_of plan
