use Rattle.std.proofs.Common.{◌++◌, ap, ◌∙◌, length}
use Rattle.std.specs.Prelude.{codes, decimal}
use Rattle.session_slots.specs.Sessions.{Session}
use Rattle.outer_io.proofs.GatheredTexts.{adds_then}
use Rattle.text_parts.proofs.GatheredTexts.{adds_same}
use Rattle.output_text.proofs.check.gather_gates.Goals as goal

pub returns : goal.returns
returns g c =
    adds_same _ _ _ _
    (ap (λ gates. codes "session " ++ (decimal c.args.s ++ (codes " gates " ++ (decimal gates ++ codes " "))))
    (ap length c.gates.ensures ∙ ap (λ (s : Session). length s.gates) c.part.ensures))
    (adds_then _ _ _ _ _ c.push.ensures (adds_then _ _ _ _ _ c.gather_number.ensures (adds_then _ _ _ _ _ c.push-2.ensures (adds_then _ _ _ _ _ c.gather_number-2.ensures c.push-3.ensures))))
