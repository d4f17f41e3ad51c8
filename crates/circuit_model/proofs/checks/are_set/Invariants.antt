use Rattle.std.proofs.Common.{◌≡◌, drop, false}
use Rattle.std.specs.Prelude.{slice_index_or}
use Rattle.std.specs.List.{list_all}
use Rattle.circuit_model.proofs.checks.are_set.Given as goal

abbrev pub invariant-loop-wire : goal.invariant-loop-wire
invariant-loop-wire l = list_all (λ w. slice_index_or l.set w false) l.read ≡ list_all (λ w. slice_index_or l.set w false) (drop l.wire-index l.read)
