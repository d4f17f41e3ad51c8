use Rattle.list_laws.specs.Lists.{joined}
use Rattle.outer_io.specs.Blocks.{Adds}
use Rattle.view_text.specs.ViewText.{message_lines}
use Rattle.node_text.specs.NodeText.{kept_message}
use Rattle.node_text.proofs.view.gather_kept.Given as goal

abbrev pub invariant-loop-number : goal.invariant-loop-number
invariant-loop-number g l =
    Adds (joined l.number (λ m. message_lines l.names (kept_message l.plan l.group.mask l.done m))) (g.G.Gather.gathered l.fn.out) (g.G.Gather.gathered l.out)
