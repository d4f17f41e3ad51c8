use Rattle.list_laws.specs.Lists.{joined}
use Rattle.outer_io.specs.Blocks.{Adds}
use Rattle.text_parts.specs.Parts.{member_text}
use Rattle.text_parts.proofs.gathered.gather_group.Given as goal

abbrev pub invariant-loop-party : goal.invariant-loop-party
invariant-loop-party g l = Adds (joined l.party (member_text l.names l.group.mask)) (g.G.Gather.gathered l.initial.out) (g.G.Gather.gathered l.out)
