use Rattle.std.proofs.Common.{◌≡◌, ℕ, ◌^◌, ◌<◌, All, length}
use Rattle.std.specs.Prelude.{slice_index}
use Rattle.circuit_model.specs.Circuits.{values}
use Rattle.session_slots.specs.Sessions.{gate}
use Rattle.plan_model.specs.Plans.{session}
use Rattle.wire_tables.proofs.values.run_gates.Given as goal

-- the values before gate t
abbrev pub invariant-loop-t : goal.invariant-loop-t
invariant-loop-t l = record {
  long : length l.list.items ≡ (session l.plan l.s).wires;
  words : All (λ word. word < 2 ^ l.plan.bits) l.list.items;
  values : (v : ℕ) → slice_index l.list.items v ≡ values (2 ^ l.plan.bits) (gate (session l.plan l.s)) (slice_index l.fn.list.items) l.t v;
}
