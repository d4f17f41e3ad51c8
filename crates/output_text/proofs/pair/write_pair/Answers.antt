use Rattle.std.proofs.Common.{rules, refl}
use Rattle.outer_io.proofs.GatheredTexts.{adds_all}
use Rattle.output_text.specs.PairText.{pair_text}
use Rattle.output_text.proofs.pair.write_pair.Goals as goal

pub returns : goal.returns
returns g c = λ w same f v same_v h tapes.
    adds_all g.S.Sink.reading (pair_text c.args.names.now c.args.numeric.now w v c.args.group.mask) _ _ _ _ _ _ _ c.new-blocks.ensures refl refl (c.gather_pair.ensures w same f v same_v h tapes) c.finish.ensures refl (search rules)
