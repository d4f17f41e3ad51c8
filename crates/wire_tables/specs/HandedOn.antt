-- What later sessions carry of a session, handed on to them: of each wire an item, which may be its summands or its
-- value.
use Rattle.std.specs.Prelude.{◌≡◌, ℕ, false}
use Rattle.session_slots.specs.Sessions.{carries, source}
use Rattle.session_slots.specs.declared.source.Source.TheVariants.{Earlier}
use Rattle.plan_model.specs.Plans.{Plan, session}
use Rattle.share_world.specs.Worlds.{carried_wire}

-- each input wire that is carried from session s gets the item of the wire that it carries, and each other one keeps
-- its own
pub record IsHandedOn {A : Type 0} (plan : Plan) (s : ℕ) (item : ℕ → A) (old new : ℕ → ℕ → A) : Type 0 where
  pub carried : (u v c i : ℕ) → source (session plan u) v ≡ Earlier s c i → new u v ≡ item (carried_wire plan s c i)
  pub others : (u v : ℕ) → carries s (source (session plan u) v) ≡ false → new u v ≡ old u v
