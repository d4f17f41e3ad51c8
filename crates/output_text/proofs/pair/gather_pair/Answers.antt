use Rattle.std.proofs.Common.{ap}
use Rattle.outer_io.proofs.GatheredTexts.{adds_then}
use Rattle.text_parts.proofs.GatheredTexts.{adds_same}
use Rattle.output_text.specs.PairText.{pair_text, tapes_text}
use Rattle.output_text.proofs.pair.gather_pair.Goals as goal

pub returns : goal.returns
unfolding pair_text
returns g c = λ w same f v same_v h tapes.
    let first = adds_then _ _ _ _ _ (c.gather_out.ensures w same f) (c.gather_view.ensures w same f) in
    let second = adds_then _ _ _ _ _ (c.gather_out-2.ensures v same_v h) (c.gather_view-2.ensures v same_v h) in
    let last = adds_same _ _ _ _ (ap (tapes_text c.args.first.now.names.now) tapes) c.gather_tapes.ensures in
    adds_then _ _ _ _ _ c.push.ensures (adds_then _ _ _ _ _ first (adds_then _ _ _ _ _ c.push-2.ensures (adds_then _ _ _ _ _ second last)))
