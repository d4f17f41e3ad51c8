use Rattle.std.proofs.Common.{◌++◌}
use Rattle.std.specs.Prelude.{codes, decimal}
use Rattle.list_laws.specs.Lists.{joined}
use Rattle.outer_io.specs.Blocks.{Adds}
use Rattle.share_world.specs.Worlds.{World}
use Rattle.desk_workers.specs.Runs.{IsOver}
use Rattle.value_words.specs.Turned.{column}
use Rattle.output_text.specs.Opened.{IsRead}
use Rattle.output_text.specs.OutText.{wire_word}
use Rattle.output_text.proofs.run.gather_numbers.Given as goal

abbrev pub invariant-loop-lane : goal.invariant-loop-lane
invariant-loop-lane g l =
    (w : World) → IsOver w l.done → IsRead w.plan l.s l.first l.width l.r
    → Adds (joined l.lane (λ j. codes " " ++ decimal (column l.width (wire_word w l.s l.first) j))) (g.G.Gather.gathered l.fn.out) (g.G.Gather.gathered l.out)
