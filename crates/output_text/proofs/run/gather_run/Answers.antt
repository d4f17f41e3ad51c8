use Rattle.std.proofs.Common.{sym, subst}
use Rattle.outer_io.specs.Blocks.{Adds}
use Rattle.outer_io.proofs.GatheredTexts.{adds_then}
use Rattle.party_set.specs.Parties.{Members}
use Rattle.std.specs.Prelude.{Option}
use Rattle.output_text.specs.RunText.{run_text}
use Rattle.output_text.proofs.run.gather_run.Goals as goal

pub returns-in-Some : goal.returns-in-Some
unfolding run_text
returns-in-Some g c = λ w same f.
    subst (λ (o : Option Members). Adds (run_text c.args.run.now.names.now c.args.run.now.numeric.now w o) (g.G.Gather.gathered c.args.out.now) (g.G.Gather.gathered c.gather_view.new.out)) (sym c.in-Some.is)
    (adds_then _ _ _ _ _ (c.gather_out.ensures w same f) (c.gather_view.ensures w same f))

pub returns-in-None : goal.returns-in-None
unfolding run_text
returns-in-None g c = λ w same f.
    subst (λ (o : Option Members). Adds (run_text c.args.run.now.names.now c.args.run.now.numeric.now w o) (g.G.Gather.gathered c.args.out.now) (g.G.Gather.gathered c.gather_out.new.out)) (sym c.in-None.is)
    (c.gather_out.ensures w same f)
