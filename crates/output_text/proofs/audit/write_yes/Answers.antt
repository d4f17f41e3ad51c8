use Rattle.std.proofs.Common.{rules, refl}
use Rattle.outer_io.proofs.GatheredTexts.{adds_all}
use Rattle.output_text.specs.AuditText.{yes_text}
use Rattle.output_text.proofs.audit.write_yes.Goals as goal

pub returns : goal.returns
unfolding yes_text
returns g c =
    adds_all g.S.Sink.reading (yes_text c.args.count) _ _ _ _ _ _ _ c.new-blocks.ensures refl refl c.gather_count.ensures c.finish.ensures refl (search rules)
