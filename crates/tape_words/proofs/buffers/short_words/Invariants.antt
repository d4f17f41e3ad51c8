use Rattle.std.proofs.Common.{◌≡◌, ◌*◌}
use Rattle.list_laws.specs.Lists.{listed}
use Rattle.tape_words.specs.Seeds.{short_word}
use Rattle.tape_words.proofs.buffers.short_words.Given as goal

-- so many buffers are written, and the generator stands behind them
abbrev pub invariant-loop-buffer : goal.invariant-loop-buffer
invariant-loop-buffer l = record {
  generator : l.generator ≡ record l.fn.generator { word_pos = 64 * l.buffer };
  words : l.words.items ≡ listed (64 * l.buffer) (short_word l.ring l.fn.generator.key l.fn.generator.stream);
}
