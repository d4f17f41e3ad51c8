use Rattle.std.proofs.Common.{arith, sym, ◌∙◌}
use Rattle.circuit_file.proofs.LineTokens.{drop_next, drop_none}
use Rattle.circuit_file.proofs.tokens.after.Goals as goal

pub returns-in-None : goal.returns-in-None
returns-in-None c = c.in-None.ensures.steps.1 ∙ sym (drop_none c.args.tokens c.loop-at.at c.args.count (sym c.loop-at.invariant.rest ∙ c.in-None.ensures.steps.0) (omega arith))

pub loop-at-preserved : goal.loop-at-preserved
loop-at-preserved c = record {
  walks = (tt, tt);
  rest = sym (drop_next c.args.tokens c.next.new.self _ c.loop-at.at (sym c.loop-at.invariant.rest ∙ c.in-Some.ensures.steps));
}
