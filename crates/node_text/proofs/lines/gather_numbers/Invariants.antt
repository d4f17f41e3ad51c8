use Rattle.std.proofs.Common.{◌++◌}
use Rattle.std.specs.Prelude.{codes, decimal}
use Rattle.list_laws.specs.Lists.{joined}
use Rattle.outer_io.specs.Blocks.{Adds}
use Rattle.value_words.specs.Turned.{column}
use Rattle.node_text.specs.NodeText.{output_word}
use Rattle.node_text.proofs.lines.gather_numbers.Given as goal

abbrev pub invariant-loop-lane : goal.invariant-loop-lane
invariant-loop-lane g l = Adds (joined l.lane (λ j. codes " " ++ decimal (column l.width (output_word l.done l.s l.first) j))) (g.G.Gather.gathered l.fn.out) (g.G.Gather.gathered l.out)
