use Rattle.std.proofs.Common.{◌+◌, ◌++◌}
use Rattle.std.specs.Prelude.{codes, decimal}
use Rattle.std.specs.Option.{unwrap_or}
use Rattle.list_laws.specs.Lists.{joined}
use Rattle.outer_io.specs.Blocks.{Adds}
use Rattle.node_talk.specs.Runs.{output_of}
use Rattle.node_text.proofs.lines.gather_words.Given as goal

abbrev pub invariant-loop-i : goal.invariant-loop-i
invariant-loop-i g l = Adds (joined l.i (λ i. codes " " ++ decimal (unwrap_or (output_of l.done l.s (l.first + i)) 0))) (g.G.Gather.gathered l.fn.out) (g.G.Gather.gathered l.out)
