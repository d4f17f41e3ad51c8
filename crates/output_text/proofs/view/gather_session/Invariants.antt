use Rattle.std.proofs.Common.{◌≡◌}
use Rattle.list_laws.specs.Lists.{joined}
use Rattle.outer_io.specs.Blocks.{Adds}
use Rattle.share_world.specs.Worlds.{World}
use Rattle.desk_workers.specs.Runs.{IsOver}
use Rattle.output_text.specs.Seen.{slot_seen}
use Rattle.output_text.proofs.view.gather_session.Given as goal

abbrev pub invariant-loop-k : goal.invariant-loop-k
invariant-loop-k g l =
    (w : World) → w.plan ≡ l.run.plan.now → IsOver w l.run.done.now
    → Adds (joined l.k (slot_seen l.run.names.now w l.group.mask l.s)) (g.G.Gather.gathered l.fn.out) (g.G.Gather.gathered l.out)
