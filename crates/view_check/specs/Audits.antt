-- What an audit goes by.
use Rattle.std.specs.Prelude.{◌≡◌, ℕ, List, length}
use Rattle.plan_model.specs.declared.key.Key.{Key}
use Rattle.plan_model.specs.Messages.{slot_messages}
use Rattle.plan_model.specs.Plans.{slot}
use Rattle.share_world.specs.Laws.{IsWhole}
use Rattle.share_world.specs.Worlds.{World}
use Rattle.wire_tables.specs.WireTables.{world_of}
use Rattle.view_text.specs.Seen.{seen_of}
use Rattle.view_check.specs.declared.messages.Audited.{Audited}

-- the world of the run: its plan, and what its parties give
abbrev pub audited_world : Audited → World
audited_world run = world_of run.world

-- the run is one of a whole world, and its parties have these names
pub record IsAudit (run : Audited) : Type 0 where
  pub names : length run.names.now ≡ run.world.plan.now.parties
  pub group : run.group.parties ≡ length run.names.now
  pub whole : IsWhole (audited_world run)

-- what the group sees of these messages
abbrev pub seen_by : Audited → List Key → List (Key × ℕ)
seen_by run keys = seen_of (audited_world run) run.group.mask keys

-- and of those of slot k of session s
abbrev pub seen_at : Audited → ℕ → ℕ → List (Key × ℕ)
seen_at run s k = seen_by run (slot_messages run.world.plan.now s k (slot run.world.plan.now s k))
