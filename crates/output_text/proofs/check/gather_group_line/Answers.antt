use Rattle.std.proofs.Common.{◌++◌, ap, ◌∙◌}
use Rattle.std.specs.Prelude.{codes, decimal, slice_index}
use Rattle.party_set.specs.Parties.{Members, Structure}
use Rattle.text_parts.specs.Parts.{group_text}
use Rattle.outer_io.proofs.GatheredTexts.{adds_then}
use Rattle.text_parts.proofs.GatheredTexts.{adds_same}
use Rattle.output_text.proofs.check.gather_group_line.Goals as goal

pub returns : goal.returns
returns g c =
    adds_same _ _ _ _
    (ap (λ mask. codes "group " ++ (decimal c.args.i ++ (codes " " ++ (group_text c.args.names.now mask ++ codes "\n"))))
    (ap (λ (m : Members). m.mask) c.get.ensures ∙ ap (λ (s : Structure). slice_index s.groups c.args.i) c.requires.groups))
    (adds_then _ _ _ _ _ c.push.ensures (adds_then _ _ _ _ _ c.gather_number.ensures (adds_then _ _ _ _ _ c.push-2.ensures (adds_then _ _ _ _ _ c.gather_group.ensures c.push-3.ensures))))
