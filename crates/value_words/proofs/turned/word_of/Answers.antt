use Rattle.std.proofs.Common.{◌+◌, ◌^◌, ◌<◌, sym, subst}
use Rattle.std.specs.Prelude.{slice_index}
use Rattle.value_words.proofs.Turns.{column_below}
use Rattle.value_words.proofs.turned.word_of.Goals as goal

pub with_bit-word-requires-clause-below : goal.with_bit-word-requires-clause-below
with_bit-word-requires-clause-below c =
    subst (λ n. n < 2 ^ c.loop-lane.lane) (sym c.loop-lane.invariant) (column_below c.loop-lane.lane (λ lane. slice_index c.args.numbers.now (c.args.first + lane)) c.args.wire)
