use Rattle.std.proofs.Common.{ℕ, ◌<◌, length}
use Rattle.std.specs.Prelude.{slice_index}
use Rattle.std.specs.List.{Contains}
use Rattle.session_slots.specs.Sessions.{readers}
use Rattle.plan_model.specs.Plans.{session}
use Rattle.job_plan.proofs.patterns.readers_of_all.Given as goal

-- the readers of the sessions so far are there
abbrev pub invariant-loop-s : goal.invariant-loop-s
invariant-loop-s l = (s : ℕ) → s < l.s → (o : ℕ) → o < length (readers (session l.outline s)) → Contains l.masks (slice_index (readers (session l.outline s)) o)
