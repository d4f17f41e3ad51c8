use Rattle.std.proofs.Common.{◌++◌, refl}
use Rattle.std.specs.Prelude.{codes, decimal, slice_index}
use Rattle.outer_io.proofs.GatheredTexts.{adds_nothing}
use Rattle.text_parts.proofs.GatheredTexts.{adds_more}
use Rattle.output_text.proofs.pair.gather_words.Goals as goal

pub loop-i-init : goal.loop-i-init
loop-i-init g c = adds_nothing _

pub loop-i-preserved : goal.loop-i-preserved
loop-i-preserved g c =
    adds_more c.loop-i.i (λ i. codes " " ++ decimal (slice_index c.args.words.now i)) _ _ _ _ refl c.loop-i.invariant c.gather_word.ensures
