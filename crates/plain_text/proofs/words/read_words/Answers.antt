use Rattle.std.proofs.Common.{◌∙◌}
use Rattle.plain_text.proofs.ReadWords.{words_in-begin}
use Rattle.plain_text.proofs.words.read_words.Goals as goal

pub loop-word-init : goal.loop-word-init
loop-word-init c = words_in-begin c.args.text.now c.new-words.result.items c.into_iter-word-iterator.result (c.into_iter-word-iterator.ensures.into_iter_gives ∙ c.of-word-items.ensures) c.new-words.ensures.items
