use Rattle.std.proofs.Common.{◌≡◌}
use Rattle.list_laws.specs.Lists.{joined}
use Rattle.outer_io.specs.Blocks.{Adds}
use Rattle.share_world.specs.Worlds.{World}
use Rattle.desk_workers.specs.Runs.{IsOver}
use Rattle.output_text.specs.Seen.{session_seen}
use Rattle.output_text.proofs.view.gather_messages.Given as goal

abbrev pub invariant-loop-s : goal.invariant-loop-s
invariant-loop-s g l =
    (w : World) → w.plan ≡ l.run.plan.now → IsOver w l.run.done.now
    → Adds (joined l.s (session_seen l.run.names.now w l.group.mask)) (g.G.Gather.gathered l.fn.out) (g.G.Gather.gathered l.out)
