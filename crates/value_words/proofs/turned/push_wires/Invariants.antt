use Rattle.std.proofs.Common.{◌≡◌, ◌+◌, ◌++◌}
use Rattle.std.specs.Prelude.{slice_index}
use Rattle.value_words.specs.Turned.{turned}
use Rattle.value_words.proofs.turned.push_wires.Given as goal

abbrev pub invariant-loop-wire : goal.invariant-loop-wire
invariant-loop-wire l = l.words.items ≡ l.initial.words.items ++ turned l.lanes (λ lane. slice_index l.numbers (l.first + lane)) l.wire
