use Rattle.std.proofs.Common.{◌≡◌, ◌+◌}
use Rattle.std.specs.Prelude.{slice_index}
use Rattle.value_words.specs.Turned.{column}
use Rattle.value_words.proofs.turned.word_of.Given as goal

abbrev pub invariant-loop-lane : goal.invariant-loop-lane
invariant-loop-lane l = l.word ≡ column l.lane (λ lane. slice_index l.numbers (l.first + lane)) l.wire
