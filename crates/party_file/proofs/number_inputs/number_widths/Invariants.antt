use Rattle.std.proofs.Common.{◌≡◌}
use Rattle.std.specs.Prelude.{slice_index}
use Rattle.list_laws.specs.Lists.{joined, listed}
use Rattle.party_file.proofs.number_inputs.number_widths.Given as goal

abbrev pub invariant-loop-value : goal.invariant-loop-value
invariant-loop-value l = l.found.items ≡ joined l.value (λ value. listed l.lanes (λ lane. slice_index l.widths value))
