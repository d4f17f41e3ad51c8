use Rattle.std.proofs.Common.{◌≡◌}
use Rattle.list_laws.specs.Lists.{joined}
use Rattle.outer_io.specs.Blocks.{Adds}
use Rattle.plan_model.specs.Plans.{session}
use Rattle.view_text.specs.OutLines.{wires_before}
use Rattle.node_text.specs.NodeText.{value_line}
use Rattle.node_text.proofs.lines.gather_session.Given as goal

abbrev pub invariant-loop-v : goal.invariant-loop-v
invariant-loop-v g l = record {
  first : l.first ≡ wires_before (session l.reader.plan.now l.s) l.v;
  text : Adds (joined l.v (value_line l.reader.name.now l.reader.numeric.now l.reader.plan.now l.reader.party l.reader.done.now l.s)) (g.G.Gather.gathered l.fn.out) (g.G.Gather.gathered l.out);
}
