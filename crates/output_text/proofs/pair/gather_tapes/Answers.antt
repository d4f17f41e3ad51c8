use Rattle.std.proofs.Common.{refl}
use Rattle.outer_io.proofs.GatheredTexts.{adds_nothing}
use Rattle.text_parts.proofs.GatheredTexts.{adds_more}
use Rattle.plan_model.specs.InputWords.{session_words}
use Rattle.output_text.specs.PairText.{tape_line}
use Rattle.output_text.proofs.pair.gather_tapes.Goals as goal

pub loop-p-init : goal.loop-p-init
loop-p-init g c = adds_nothing _

pub loop-p-preserved : goal.loop-p-preserved
loop-p-preserved g c =
    adds_more c.loop-p.p (tape_line c.args.names.now (session_words c.args.tapes.now)) _ _ _ _ refl c.loop-p.invariant c.gather_tape.ensures
