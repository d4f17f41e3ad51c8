use Rattle.outer_io.proofs.GatheredTexts.{adds_then}
use Rattle.view_text.specs.ViewText.{view_text}
use Rattle.output_text.specs.Seen.{seen_lines}
use Rattle.output_text.proofs.view.gather_view.Goals as goal

pub returns : goal.returns
unfolding view_text seen_lines
returns g c = λ w same f. adds_then _ _ _ _ _ c.gather_view_head.ensures (c.gather_messages.ensures w same f)
