-- What one party has of a world.
use Rattle.std.specs.Prelude.{◌≡◌, ℕ, ◌<◌, ◌^◌, if◌then◌else◌, [], length, slice_index, slice_index_or}
use Rattle.list_laws.specs.Lists.{total}
use Rattle.session_slots.specs.Sessions.{owners}
use Rattle.plan_model.specs.Plans.{session, gives}
use Rattle.plan_model.specs.InputWords.{given}
use Rattle.plan_model.specs.Sound.{IsSound}
use Rattle.plan_model.specs.Tallies.{tape_length}
use Rattle.share_world.specs.Worlds.{World}

-- a plan within the limits, and of party p as many inputs and tape words as that asks for, all of the ring
pub record IsPart (w : World) (p : ℕ) : Type 0 where
  pub sound : IsSound w.plan
  pub party : p < w.plan.parties
  pub inputs : (s : ℕ) → s < length w.plan.sessions
      → length (given w.inputs p s)
      ≡ total (length (owners (session w.plan s))) (λ v. if gives w.plan s p v then 1 else 0)
  pub tape : length (slice_index_or w.tapes p []) ≡ tape_length w.plan p
  pub small_inputs : (s i : ℕ) → slice_index (given w.inputs p s) i < 2 ^ w.plan.bits
  pub small_tape : (i : ℕ) → slice_index (slice_index_or w.tapes p []) i < 2 ^ w.plan.bits
