use Rattle.std.proofs.Common.{sym, ap, ◌∙◌}
use Rattle.text_parts.proofs.GatheredTexts.{adds_same}
use Rattle.text_parts.specs.Parts.{words_text}
use Rattle.value_words.proofs.Shown.{narrow_numbers, shown_numbers, shown_wires}
use Rattle.node_text.specs.NodeText.{output_word}
use Rattle.node_text.proofs.lines.gather_shown.Goals as goal

pub gather_numbers-requires-clause-narrow : goal.gather_numbers-requires-clause-narrow
gather_numbers-requires-clause-narrow g c = narrow_numbers c.args.reader.now.numeric.now c.args.s c.args.width (sym c.as_numbers.ensures ∙ c.if-as_numbers.true)

pub returns-then-as_numbers : goal.returns-then-as_numbers
returns-then-as_numbers g c =
    adds_same _ _ _ _ (ap words_text (shown_numbers c.args.reader.now.numeric.now c.args.s c.args.reader.now.plan.now.bits c.args.width (output_word c.args.reader.now.done.now c.args.s c.args.first) _ (sym c.as_numbers.ensures ∙ c.if-as_numbers.true) c.bits.ensures.is c.ring.ensures.is)) c.gather_numbers.ensures

pub returns-else-as_numbers : goal.returns-else-as_numbers
returns-else-as_numbers g c =
    adds_same _ _ _ _ (ap words_text (shown_wires c.args.reader.now.numeric.now c.args.s c.args.reader.now.plan.now.bits c.args.width (output_word c.args.reader.now.done.now c.args.s c.args.first) (sym c.as_numbers.ensures ∙ c.if-as_numbers.false))) c.gather_words.ensures
