use Rattle.std.proofs.Common.{◌≡◌, ◌≤◌, ◌-◌, false, not, length, slice_index_or}
use Rattle.std.specs.List.{find, range_with_len}
use Rattle.circuit_model.proofs.builder.first_unset.Given as goal

abbrev pub invariant-loop-wire : goal.invariant-loop-wire
invariant-loop-wire l =
    (l.wire ≤ length l.set)
    × (find (λ w. not (slice_index_or l.set w false)) (range_with_len (length l.set - l.outputs) l.outputs) ≡ find (λ w. not (slice_index_or l.set w false)) (range_with_len l.wire (length l.set - l.wire)))
