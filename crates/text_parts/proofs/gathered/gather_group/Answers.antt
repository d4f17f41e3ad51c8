use Rattle.std.proofs.Common.{refl}
use Rattle.text_parts.specs.Parts.{member_text}
use Rattle.text_parts.proofs.GatheredTexts.{adds_more}
use Rattle.text_parts.proofs.gathered.gather_group.Goals as goal

pub loop-party-preserved : goal.loop-party-preserved
loop-party-preserved g c = adds_more c.loop-party.party (member_text c.args.names.now c.args.group.mask) _ _ _ _ refl c.loop-party.invariant c.gather_member.ensures
