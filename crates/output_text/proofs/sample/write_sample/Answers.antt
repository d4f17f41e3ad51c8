use Rattle.std.proofs.Common.{rules, refl}
use Rattle.outer_io.proofs.GatheredTexts.{adds_all}
use Rattle.output_text.specs.SampleText.{sample_text}
use Rattle.output_text.proofs.sample.write_sample.Goals as goal

pub returns : goal.returns
returns g c = λ w same f.
    adds_all g.S.Sink.reading (sample_text c.args.names.now w c.args.count) _ _ _ _ _ _ _ c.new-blocks.ensures refl refl (c.gather_sample.ensures w same f) c.finish.ensures refl (search rules)
