use Rattle.std.proofs.Common.{◌≡◌, ℕ, false, nat_lt, length, slice_index_or}
use Rattle.circuit_model.proofs.builder.start_set.Given as goal

abbrev pub invariant-loop-wire : goal.invariant-loop-wire
invariant-loop-wire l =
    (length l.set.items ≡ l.wires)
    × ((w : ℕ) → slice_index_or l.set.items w false ≡ nat_lt w l.wire)
