use Rattle.std.proofs.Common.{sym, ap, ◌∙◌}
use Rattle.text_parts.proofs.GatheredTexts.{adds_same}
use Rattle.text_parts.specs.Parts.{words_text}
use Rattle.value_words.proofs.Shown.{narrow_numbers, shown_numbers, shown_wires}
use Rattle.output_text.specs.OutText.{wire_word}
use Rattle.output_text.proofs.run.gather_shown.Goals as goal

pub gather_numbers-requires-clause-narrow : goal.gather_numbers-requires-clause-narrow
gather_numbers-requires-clause-narrow g c = narrow_numbers c.args.run.now.numeric.now c.args.s c.args.width (sym c.as_numbers.ensures ∙ c.if-as_numbers.true)

pub returns-then-as_numbers : goal.returns-then-as_numbers
returns-then-as_numbers g c = λ w f read.
    let word = wire_word w c.args.s c.args.first in
    adds_same _ _ _ _ (ap words_text (shown_numbers c.args.run.now.numeric.now c.args.s c.args.run.now.plan.now.bits c.args.width word _ (sym c.as_numbers.ensures ∙ c.if-as_numbers.true) c.bits.ensures.is c.ring.ensures.is)) (c.gather_numbers.ensures w f read)

pub returns-else-as_numbers : goal.returns-else-as_numbers
returns-else-as_numbers g c = λ w f read.
    adds_same _ _ _ _ (ap words_text (shown_wires c.args.run.now.numeric.now c.args.s c.args.run.now.plan.now.bits c.args.width (wire_word w c.args.s c.args.first) (sym c.as_numbers.ensures ∙ c.if-as_numbers.false))) (c.gather_words.ensures w f read)
