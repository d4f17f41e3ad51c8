use Rattle.list_laws.specs.Lists.{joined}
use Rattle.outer_io.specs.Blocks.{Adds}
use Rattle.plan_model.specs.InputWords.{session_words}
use Rattle.output_text.specs.PairText.{tape_line}
use Rattle.output_text.proofs.pair.gather_tapes.Given as goal

abbrev pub invariant-loop-p : goal.invariant-loop-p
invariant-loop-p g l = Adds (joined l.p (tape_line l.names (session_words l.tapes))) (g.G.Gather.gathered l.fn.out) (g.G.Gather.gathered l.out)
