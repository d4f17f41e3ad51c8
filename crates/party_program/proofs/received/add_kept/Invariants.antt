use Rattle.std.proofs.Common.{◌≡◌, ℕ, ◌<◌}
use Rattle.session_slots.specs.declared.source.Source.TheVariants.{Earlier}
use Rattle.session_slots.specs.Sessions.{source}
use Rattle.session_slots.specs.Carries.{kept_place}
use Rattle.plan_model.specs.Plans.{session}
use Rattle.party_program.specs.ProgramPlaces.{AreReceived, IsReceived}
use Rattle.party_program.proofs.received.add_kept.Given as goal

-- those of the sessions before it, and those of its places so far
abbrev pub invariant-loop-place : goal.invariant-loop-place
invariant-loop-place l = record {
  before : AreReceived l.plan l.s l.r l.received.items;
  places : (v c i : ℕ) → source (session l.plan l.s) v ≡ Earlier l.r c i → kept_place l.plan.sessions l.s v < l.place → IsReceived l.plan l.s l.received.items v l.r;
}
