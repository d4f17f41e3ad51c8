use Rattle.std.proofs.Common.{◌++◌, [], sym, ap₂, ◌∙◌}
use Rattle.std.specs.Prelude.{codes}
use Rattle.std.proofs.lemmas.Option.{get_or_from_slice_get}
use Rattle.outer_io.proofs.GatheredTexts.{adds_then}
use Rattle.text_parts.proofs.GatheredTexts.{adds_same}
use Rattle.view_text.proofs.lines.gather_parties.Goals as goal

pub returns : goal.returns
returns g c =
    adds_same _ _ _ _
    (ap₂ (λ sender receiver. codes " " ++ (sender ++ (codes " " ++ receiver)))
    (c.as_bytes.ensures.value ∙ sym (get_or_from_slice_get c.args.names.now c.args.key.sender c.name.result.now [] c.name.ensures))
    (c.as_bytes-2.ensures.value ∙ sym (get_or_from_slice_get c.args.names.now c.args.key.receiver c.name-2.result.now [] c.name-2.ensures)))
    (adds_then _ _ _ _ _ c.push.ensures (adds_then _ _ _ _ _ c.push-2.ensures (adds_then _ _ _ _ _ c.push-3.ensures c.push-4.ensures)))
