use Rattle.std.proofs.Common.{◌≡◌, length}
use Rattle.plain_text.specs.Words.{numbers_or_fault, numbers_from}
use Rattle.plain_text.proofs.ReadWords.{after}
use Rattle.plain_text.proofs.words.read_words.Given as goal

abbrev pub invariant-loop-word : goal.invariant-loop-word
invariant-loop-word l = numbers_or_fault l.fn.text ≡ after l.words.items (numbers_from (length l.words.items) l.word-iterator)
