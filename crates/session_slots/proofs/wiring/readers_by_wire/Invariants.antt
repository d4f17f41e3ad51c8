use Rattle.std.proofs.Common.{◌≡◌, ℕ, ◌++◌, ◌<◌, ◌^◌, drop, get_or}
use Rattle.session_slots.specs.declared.values.OutputValue.{OutputValue}
use Rattle.session_slots.specs.Sessions.{readers_of}
use Rattle.session_slots.proofs.wiring.readers_by_wire.Given as goal

-- what is listed and what is left are the whole, and the groups so far have no member that is no party
abbrev pub invariant-loop-value : goal.invariant-loop-value
invariant-loop-value l = record {
  whole : l.list.items ++ readers_of (drop l.value-index l.outputs) ≡ readers_of l.outputs;
  within : (k : ℕ) (d : OutputValue) → k < l.value-index → (get_or l.outputs k d).readers.mask < 2 ^ (get_or l.outputs k d).readers.parties;
}
