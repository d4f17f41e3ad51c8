use Rattle.list_laws.specs.Lists.{joined}
use Rattle.outer_io.specs.Blocks.{Adds}
use Rattle.party_names.specs.Names.{name_at}
use Rattle.node_text.specs.NodeText.{session_lines}
use Rattle.node_text.proofs.lines.gather_outputs.Given as goal

abbrev pub invariant-loop-s : goal.invariant-loop-s
invariant-loop-s g l = Adds (joined l.s (session_lines (name_at l.names l.me) l.numeric l.plan l.me l.done)) (g.G.Gather.gathered l.fn.out) (g.G.Gather.gathered l.out)
