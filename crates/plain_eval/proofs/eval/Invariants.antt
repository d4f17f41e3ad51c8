use Rattle.std.proofs.Common.{◌≡◌, ◌^◌, ◌<◌, ℕ, length}
use Rattle.std.specs.Prelude.{slice_index}
use Rattle.circuit_model.specs.Circuits.{values}
use Rattle.circuit_model.specs.Netlists.{gate, before_gates}
use Rattle.plain_eval.proofs.eval.Given as goal

abbrev pub invariant-loop-i : goal.invariant-loop-i
invariant-loop-i l = record {
  long : length l.values.items ≡ l.circuit.wires;
  values : (w : ℕ) → slice_index l.values.items w ≡ values (2 ^ l.ring) (gate l.circuit) (before_gates l.circuit (slice_index l.inputs)) l.i w;
  words : (w : ℕ) → slice_index l.values.items w < 2 ^ l.ring;
}
