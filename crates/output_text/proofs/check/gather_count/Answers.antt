use Rattle.std.proofs.Common.{ap}
use Rattle.outer_io.proofs.GatheredTexts.{adds_then}
use Rattle.text_parts.proofs.GatheredTexts.{adds_same}
use Rattle.output_text.specs.CheckText.{count_line}
use Rattle.output_text.proofs.check.gather_count.Goals as goal

pub returns : goal.returns
returns g c =
    adds_same _ _ _ _ (ap (λ word. count_line word c.args.count) c.as_bytes.ensures.value)
    (adds_then _ _ _ _ _ c.push.ensures (adds_then _ _ _ _ _ c.push-2.ensures (adds_then _ _ _ _ _ c.gather_number.ensures c.push-3.ensures)))
