use Rattle.std.proofs.Common.{◌≡◌, [], ◌∷◌}
use Rattle.std.specs.Prelude.{slice_index_or}
use Rattle.list_laws.specs.Lists.{joined}
use Rattle.outer_io.specs.Blocks.{Adds}
use Rattle.plan_model.specs.Patterns.{named}
use Rattle.plan_model.proofs.RankSearch.{no_transfer}
use Rattle.share_world.specs.Worlds.{World}
use Rattle.desk_workers.specs.Runs.{IsOver}
use Rattle.output_text.specs.Seen.{seen_lines}
use Rattle.output_text.proofs.view.gather_slot.Given as goal

abbrev pub invariant-loop-i : goal.invariant-loop-i
invariant-loop-i g l =
    (w : World) → w.plan ≡ l.run.plan.now → IsOver w l.run.done.now
    → Adds (joined l.i (λ i. seen_lines l.run.names.now w l.group.mask (named l.s l.k (slice_index_or l.transfers i no_transfer) ∷ []))) (g.G.Gather.gathered l.fn.out) (g.G.Gather.gathered l.out)
