use Rattle.std.proofs.Common.{◌++◌}
use Rattle.std.specs.Prelude.{codes, decimal, slice_index}
use Rattle.list_laws.specs.Lists.{joined}
use Rattle.outer_io.specs.Blocks.{Adds}
use Rattle.output_text.proofs.pair.gather_words.Given as goal

abbrev pub invariant-loop-i : goal.invariant-loop-i
invariant-loop-i g l =
    Adds (joined l.i (λ i. codes " " ++ decimal (slice_index l.words i))) (g.G.Gather.gathered l.fn.out) (g.G.Gather.gathered l.out)
