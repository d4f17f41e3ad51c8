use Rattle.std.proofs.Common.{◌≡◌, ◌+◌, ◌*◌}
use Rattle.std.specs.Prelude.{slice_index}
use Rattle.list_laws.specs.Lists.{joined}
use Rattle.value_words.specs.Turned.{turned}
use Rattle.value_words.proofs.turned.wires_of.Given as goal

abbrev pub invariant-loop-value : goal.invariant-loop-value
invariant-loop-value l =
    l.words.items ≡ joined l.value (λ value. turned l.lanes (λ lane. slice_index l.numbers (value * l.lanes + lane)) (slice_index l.widths value))
